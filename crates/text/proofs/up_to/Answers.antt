-- up_to meets its contract: the bytes before the first separator are counted, or all of them. Assumes nothing.
use Rattle.std.proofs.Common.{rules, tests, ◌≡◌, ◌==◌, position}
use Rattle.std.proofs.lemmas.Iterator.{YieldsList-from_slice}
use Rattle.std.proofs.lemmas.Iterator.Search.{position_from_yields_List}
use Rattle.text.specs.Text.{up_to}
use Rattle.text.proofs.Pieces.{up_to_position, up_to-le}
use Rattle.text.proofs.up_to.Goals as goal

pub returns : goal.returns
returns c =
    let s = c.args.s.now in
    let e : c.position.result ≡ position (λ b. b == c.args.sep) s = position_from_yields_List (λ b. b == c.args.sep) _ _ c.position.result c.position.ensures.ran (YieldsList-from_slice s cc) (λ x b q k. search (rules, tests)) in
    let w : c.unwrap_or.result ≡ up_to c.args.sep s = rw (c.unwrap_or.ensures, e) (up_to_position c.args.sep s) in
    (w, rw w (up_to-le c.args.sep s))
