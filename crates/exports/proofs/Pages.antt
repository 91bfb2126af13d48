-- The call that prints a page: its count is small enough for the answer's 16 bits, and the answer is the definition's.
use Prim.Native.Nat.{ℕ, ◌<◌}
use mathlib.Core.Path.{◌≡◌, ap, ◌∙◌}
use mathlib.Core.List.{List}
use native.Mathlib.Omega.{arith}
use Rattle.std.specs.Prelude.{Ok}
use Rattle.appending.specs.Placed.{Printed}
use Rattle.report.specs.Page.{printed_of, page_outcome}
use Rattle.report.proofs.Fits.{page_bytes}
use Rattle.exports.specs.Answers.{answer_code, outcome}
use Rattle.exports.specs.Showing.{printed, page_printed}

module _ (rules steps page after : List ℕ) (n : ℕ) where
  pub page_count : printed_of (Ok n) after ≡ page_outcome rules steps page → n < 65536
  page_count ends = omega (arith, (page_bytes rules steps page after (Ok n) ends).1)

  pub page_is : (q a : ℕ) → ◌≡◌ {A = Printed} (record { number = q; count = n; buffer = after }) (page_outcome rules steps page) → a ≡ answer_code q 0 n 0 → outcome a after ≡ page_printed rules steps page
  unfolding page_printed
  page_is q a ends e = ap (λ (x : ℕ). outcome x after) e ∙ ap printed ends
