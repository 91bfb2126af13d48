-- Question 31: the checks of a table's fields accept exactly the tables that some sheet gives.
use Prim.Native.Nat.{ℕ, ◌+◌, ◌≤◌, ◌<◌}
use mathlib.Core.Path.{◌≡◌, refl, ap, sym, ◌∙◌}
use mathlib.Core.List.{List, [], ◌∷◌}
use mathlib.Core.Bool.{Bool, true, false, cond}
use mathlib.Core.Logic.{⊎_elim, ◌↔◌}
use native.Mathlib.Omega.{arith}
use lib.ListN.{length, get_or}
use lib.Dec.{eqb, ltb, leb}
use borrow.Author.Tests.{eq-eqb, ne_eqb, ltb-false}
use Rattle.aldlf.specs.declared.Table.{Table}
use Rattle.text.specs.Text.{byte_limit, lines, fields, ends_in_lf}
use Rattle.text.proofs.Lines.{lines_step}
use Rattle.sheet.specs.declared.build.Reading.{Reading}
use Rattle.sheet.specs.Answers.{Stop, SheetAnswer}
use Rattle.sheet.specs.Questions.{parsed, question, added, start, accepted, refused_by, refused, whole_of, finish, read_lines, read_sheet}
use Rattle.sheet.specs.Given.{Given, well_formed}
use Rattle.sheet.proofs.Bools.{same}
use Rattle.sheet.proofs.Passed.{passed, absent}
use Rattle.sheet.proofs.Grown.{Grown}
use Rattle.sheet.proofs.Grows.{grows, counts, start_grown}
use Rattle.sheet.proofs.Peel.{given}
use Rattle.sheet.proofs.Decided.{Wf, wf_yes, wf_no}

-- what an accepting end says
ends_go : (t : Table) (u v : Bool) (r : Reading) (w k : ℕ) → cond u (refused 10 w) (cond v (refused 11 k) (accepted r.table)) ≡ accepted t → (u ≡ false) × (v ≡ false) × (r.table ≡ t)
ends_go t true v r w k e = let n : ◌≡◌ {A = ℕ} 10 0 = ap (λ (x : SheetAnswer). x.number) e in absurd (omega arith)
ends_go t false true r w k e = let n : ◌≡◌ {A = ℕ} 11 0 = ap (λ (x : SheetAnswer). x.number) e in absurd (omega arith)
ends_go t false false r w k e = (refl, refl, ap (λ (x : SheetAnswer). x.table) e)

end_wf : (t : Table) (r : Reading) (k : ℕ) → Grown r.table r.inside → (r.inside ≡ false → 1 ≤ r.table.used.nodes) → finish r k ≡ accepted t → Wf t
unfolding finish
end_wf t r k g c e =
    let q = r.table in
    let w = whole_of q in
    let s = ends_go t (ltb w q.used.automata) r.inside r (get_or r.mlines w 0) k e in
    let g' : Grown q false = rw s.1 at g in
    let h : Wf q = record { grown = g'; some = c s.1; all_used = ltb-false w q.used.automata s.0 } in
    rw s.2 at h

go_on : (t : Table) (q : Stop) (k : ℕ) (rest : SheetAnswer) → cond (eqb q.number 0) rest (refused_by q k) ≡ accepted t → (q.number ≡ 0) × (rest ≡ accepted t)
go_on t q k rest e =
    ⊎_elim (λ (z : q.number ≡ 0). (z, sym (ap (λ (b : Bool). cond b rest (refused_by q k)) (eq-eqb q.number 0 z)) ∙ e))
    (λ f. absurd (f (ap (λ (x : SheetAnswer). x.number) (sym (ap (λ (b : Bool). cond b rest (refused_by q k)) (ne_eqb q.number 0 f)) ∙ e))))
    (same q.number 0)

lines_wf : (t : Table) (r : Reading) (k : ℕ) (ls : List (List ℕ)) → Grown r.table r.inside → (r.inside ≡ false → 1 ≤ r.table.used.nodes) → read_lines r k ls ≡ accepted t → Wf t
unfolding read_lines
lines_wf t r k [] g c e = end_wf t r k g c e
lines_wf t r k (l ∷ ls) g c e =
    let x = parsed (fields l) in
    let s = go_on t (question r x) (k + 1) (read_lines (added r (k + 1) x) (k + 1) ls) e in
    let p = passed r x s.0 in
    lines_wf t (added r (k + 1) x) (k + 1) ls (grows r (k + 1) x g p (absent (fields l))) (counts r (k + 1) x g p (absent (fields l))) s.1

first_wf : (t : Table) (ls : List (List ℕ)) → 1 ≤ length ls → read_lines start 0 ls ≡ accepted t → Wf t
unfolding read_lines
first_wf t [] h e = absurd (omega arith)
first_wf t (l ∷ ls) h e =
    let x = parsed (fields l) in
    let s = go_on t (question start x) (0 + 1) (read_lines (added start (0 + 1) x) (0 + 1) ls) e in
    let p = passed start x s.0 in
    lines_wf t (added start (0 + 1) x) (0 + 1) ls (grows start (0 + 1) x start_grown p (absent (fields l))) (counts start (0 + 1) x start_grown p (absent (fields l))) s.1

text_go : (t : Table) (u v : Bool) (rest : SheetAnswer) → cond u (cond v rest (refused 2 0)) (refused 1 0) ≡ accepted t → (v ≡ true) × (rest ≡ accepted t)
text_go t true true rest e = (refl, e)
text_go t true false rest e = let n : ◌≡◌ {A = ℕ} 2 0 = ap (λ (x : SheetAnswer). x.number) e in absurd (omega arith)
text_go t false v rest e = let n : ◌≡◌ {A = ℕ} 1 0 = ap (λ (x : SheetAnswer). x.number) e in absurd (omega arith)

nonempty : (text : List ℕ) → ends_in_lf text ≡ true → 0 < length text
nonempty [] e = absurd (let y : ◌≡◌ {A = ℕ} 0 1 = cc in omega arith)
nonempty (b ∷ bs) e = omega arith

pub reads_wf : (text : List ℕ) (t : Table) → read_sheet text ≡ accepted t → Wf t
unfolding read_sheet
reads_wf text t y =
    let s = text_go t (leb (length text) byte_limit) (ends_in_lf text) (read_lines start 0 (lines text)) y in
    let c = ap length (lines_step text (nonempty text s.0)) in
    first_wf t (lines text) (omega arith) s.1

-- a table that a text reads to is well formed
pub read_well_formed : (text : List ℕ) (t : Table) → read_sheet text ≡ accepted t → well_formed t ≡ true
read_well_formed text t e = wf_no t (reads_wf text t e)

-- question 31: the checks say yes if and only if some sheet gives the table
pub well_formed_iff : (t : Table) → (well_formed t ≡ true) ↔ Given t
unfolding Given
well_formed_iff t = ((λ h. let w = wf_yes t h in given t w.grown w.some w.all_used), (λ y. read_well_formed y.0 t y.2))
