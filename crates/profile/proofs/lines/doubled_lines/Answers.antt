-- `doubled_lines` meets its contract: the lines so far are those of the old lines passed. Assumes nothing.
use Prim.Native.Nat.{◌+◌, ◌*◌, ◌<◌}
use native.Mathlib.Omega.{arith}
use mathlib.Core.Path.{◌≡◌, sym, subst, ap, ◌∙◌}
use lib.ListN.{replicate}
use Rattle.aldlf.specs.Constants.{node_limit}
use Rattle.aldlf.specs.declared.Table.{Table}
use Rattle.aldlf.specs.declared.Used.{Used}
use Rattle.sheet.specs.Facts.{node_at}
use Rattle.profile.specs.Profile.{doubled}
use Rattle.profile.specs.Room.{ProfileRoom, NamesRoom}
use Rattle.profile.proofs.Laws.{line_cong, names_room, pair_next, kept_not, kept_plain, opposite_not, opposite_plain}
use Rattle.profile.proofs.lines.doubled_lines.Goals as goal
use Rattle.profile.proofs.lines.doubled_lines.Goals.{After-line_at-x, then-x-eq78, else-x-eq78}

-- the line read is the table's, and the nodes that it names have room for their lines
read : (c : After-line_at-x) → (t : Table) → ProfileRoom t c.args.numbers.now → c.line_at-x.result ≡ node_at t c.loop-k.k
read c t R = c.line_at-x.ensures ∙ R.packed.line_is c.loop-k.k (omega (arith, ap (λ (u : Used). u.nodes) (c.used_in-k-end.ensures ∙ R.packed.used_is), R.room))

names : (c : After-line_at-x) → (2 * c.loop-k.k + 1 < node_limit) × NamesRoom c.line_at-x.result
names c =
    let R = c.requires in
    let u = ap (λ (u : Used). u.nodes) (c.used_in-k-end.ensures ∙ R.1.packed.used_is) in
    (omega (arith, u, R.1.room), subst NamesRoom (sym (read c R.0 R.1)) (names_room R.0 R.1.given R.1.room c.loop-k.k (omega (arith, u))))

pub loop-k-init : goal.loop-k-init
unfolding doubled
loop-k-init c = let z = c.default-out.ensures in λ t R. ap (replicate node_limit) (line_cong z.0 z.1.0 z.1.1)

pub bounds-out-j : goal.bounds-out-j
bounds-out-j c = omega (arith, (names (goal.at.bounds-out-j c).After-line_at-x).1.not< c.if-x-eq78.true)

pub bounds-out-j-then-x-eq78 : goal.bounds-out-j-then-x-eq78
bounds-out-j-then-x-eq78 c = omega (arith, (names (goal.at.bounds-out-j-then-x-eq78 c).After-line_at-x).1.not< c.if-x-eq78.true)

pub kept_line-requires : goal.kept_line-requires
kept_line-requires c = (names (goal.at.kept_line-requires c).After-line_at-x).1

pub opposite_line-requires : goal.opposite_line-requires
opposite_line-requires c = names (goal.at.opposite_line-requires c).After-line_at-x

pub loop-k-preserved : goal.loop-k-preserved
loop-k-preserved c =
    let l = c.loop-k in
    let x = c.line_at-x.result in λ t R.
    let e = read (goal.at.loop-k-preserved c).After-line_at-x t R in
    rw c.from-i.ensures (pair_next t.nodes l.k l.out _ (l.invariant t R) (
    elim c.if-x-eq78.branch [
      | then-x-eq78 w ↦ cc (kept_not x l.out w.if-x-eq78.true, opposite_not l.k x l.out w.if-x-eq78.true, w.from-j.ensures, e)
      | else-x-eq78 w ↦ cc (w.kept_line.ensures, kept_plain x l.out w.if-x-eq78.false, w.opposite_line.ensures, opposite_plain l.k x l.out w.if-x-eq78.false, e)
    ]))

pub returns : goal.returns
returns c = λ t R.
    let l = c.loop-k in
    let e : l.k ≡ t.used.nodes = omega (arith, ap (λ (u : Used). u.nodes) (c.used_in-k-end.ensures ∙ R.packed.used_is)) in
    l.invariant t R ∙ ap (doubled t.nodes) e
