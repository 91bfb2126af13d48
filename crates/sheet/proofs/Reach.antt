-- A list of lines, each of which passes, is a sheet's.
use Prim.Native.Nat.{ℕ, ◌+◌, ◌≤◌}
use mathlib.Core.Path.{◌≡◌, refl, ap, sym, ◌∙◌}
use mathlib.Core.List.{List, [], ◌∷◌, ◌++◌, map, append_assoc, append-nil}
use native.Mathlib.Omega.{arith}
use lib.ListN.{length, length-append}
use Rattle.aldlf.specs.declared.Table.{Table}
use Rattle.text.specs.Text.{byte_limit}
use Rattle.sheet.specs.declared.line.Line.{Line}
use Rattle.sheet.specs.declared.build.Reading.{Reading}
use Rattle.sheet.specs.Questions.{question, added, start, accepted, finish, read_lines}
use Rattle.sheet.specs.Given.{Given}
use Rattle.sheet.proofs.Lines.{read_on, sheet_on}
use Rattle.sheet.proofs.Print.{Canon, print_line, print_reads, text_of, Canons, text_lines, text_short, text_ends, text_bytes, none, more}

-- readings that lines lead to, each of which passes
pub data Reach : List Line → Reading → Type 0 where
  begin : Reach [] start
  next : {ls : List Line} {r : Reading} {l : Line} → Reach ls r → Canon l → (question r l).number ≡ 0 → Reach (ls ++ (l ∷ [])) (added r (length ls + 1) l)

pub canons : {ls ms : List Line} → Canons ls → Canons ms → Canons (ls ++ ms)
canons none b = b
canons (more k ks) b = more k (canons ks b)

pub reach_canon : {ls : List Line} {r : Reading} → Reach ls r → Canons ls
reach_canon begin = none
reach_canon (next w k q) = canons (reach_canon w) (more k none)

reach_on : {ls : List Line} {r : Reading} → Reach ls r → (ms : List Line) → read_lines start 0 (map print_line (ls ++ ms)) ≡ read_lines r (length ls) (map print_line ms)
reach_on begin ms = refl
reach_on (next {ls = ls} {r = r} {l = l} w k q) ms =
    ap (λ (x : List Line). read_lines start 0 (map print_line x)) (append_assoc ls (l ∷ []) ms)
    ∙ reach_on w (l ∷ ms)
    ∙ read_on r (length ls) (print_line l) (map print_line ms) (ap (λ (x : Line). (question r x).number) (print_reads l k) ∙ q)
    ∙ ap (λ (x : Line). read_lines (added r (length ls + 1) x) (length ls + 1) (map print_line ms)) (print_reads l k)
    ∙ ap (λ (n : ℕ). read_lines (added r (length ls + 1) l) n (map print_line ms)) (sym (length-append ls (l ∷ [])))

-- where they lead to an accepting end, they are a sheet that gives the table
pub reach_given : {ls : List Line} {r : Reading} (t : Table) → Reach ls r → 1 ≤ length ls → length ls ≤ 2730 → finish r (length ls) ≡ accepted t → Given t
unfolding Given read_lines
reach_given {ls} {r} t w h n e =
    let k = reach_canon w in
    let s : length (text_of ls) ≤ byte_limit = omega (arith, text_short k) in
    (text_of ls, text_bytes k, sym (sheet_on (text_of ls) s (text_ends k h)) ∙ ap (read_lines start 0) (text_lines k ∙ ap (map print_line) (sym (append-nil ls))) ∙ reach_on w [] ∙ e)
