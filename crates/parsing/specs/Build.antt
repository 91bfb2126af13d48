-- The work of a formula and of a path, and what the parser's answers stand for.
use Rattle.std.specs.Prelude.{ℕ, zero, suc, ◌+◌, Bool, true, false, cond, List, [], Result, Ok, Err, eqb, length}
use Rattle.aldlf.specs.Sheet.{ahead, back, stay}
use Rattle.formula.specs.Signs.{sign_back, sign_test, sign_star, sign_fact, angle_open}
use Rattle.formula.specs.Formula.{Formula, always, fact, neg, both, either, some, every, Path, step, seq, alt, many}
use Rattle.formula.specs.Code.{code_true, code_keep, code_and, code_or, code_not, code_apply, code_begin, code_some, code_every, code_step, code_keep_part, code_seq, code_alt, code_many}
use Rattle.formula.specs.Parse.{Got, ok, bad, deep, Prefix, bang, angle, square, byte, true_at, fact_at}
use Rattle.parsing.specs.declared.answers.Parsed.{Parsed}
use Rattle.parsing.specs.declared.answers.ParseError.{ParseError}
use Rattle.parsing.specs.declared.answers.ParseError.TheVariants.{NoFormula, TooDeep}
use Rattle.parsing.specs.declared.parse.Next as next
use Rattle.parsing.specs.declared.parse.Next.TheVariants.{Goes, Stops}
use Rattle.parsing.specs.Work.{Work, work_of, put, put_if, masked, ended, stepped}

unfoldable mutual
  -- The work with a formula more.
  pub build : Formula → Work → Work
  build always w = put code_true w
  build (fact f) w = put f w
  build (neg a) w = put code_apply (build a (put code_not w))
  build (both a b) w = put code_and (build b (put code_keep (build a w)))
  build (either a b) w = put code_or (build b (put code_keep (build a w)))
  build (some p a) w = put code_apply (build a (ended code_some (build_in p (put code_begin w))))
  build (every p a) w = put code_apply (build a (ended code_every (build_in p (put code_begin w))))

  -- The work with a path more.
  pub build_in : Path → Work → Work
  build_in (step d a) w = stepped (code_step d) (build a (masked w))
  build_in (seq p q) w = put code_seq (build_in q (put code_keep_part (build_in p w)))
  build_in (alt p q) w = put code_alt (build_in q (put code_keep_part (build_in p w)))
  build_in (many p) w = put code_many (build_in p w)

-- An answer of the parser with the instructions that are written then.
pub record Seen : Type 0 where
  pub number : ℕ
  pub at : ℕ
  pub work : Work

abbrev pub seen_of : Result Parsed ParseError → List ℕ → Seen
seen_of (Ok p) out = record { number = 0; at = p.at; work = work_of p.writing out }
seen_of (Err (NoFormula at)) out = record { number = 51; at = at; work = work_of (record { length = 0; modal = 0; stray = 0 }) out }
seen_of (Err (TooDeep at)) out = record { number = 52; at = at; work = work_of (record { length = 0; modal = 0; stray = 0 }) out }

-- The place that it names.
abbrev pub place_of : Result Parsed ParseError → ℕ
place_of p = (seen_of p []).at

-- What it stands for.
unfoldable pub got_of : Seen → Got Work
got_of p = cond (eqb p.number 0) (ok p.work p.at) (cond (eqb p.number 51) (bad p.at) (deep p.at))

-- After an item of a chain: it goes on, and a left side waits for the second operator and for the first or not; or it stops.
pub data Next : Type 0 where
  goes : (second first : Bool) → Work → Next
  stops : Work → Next

unfoldable pub next_of : next.Next → List ℕ → Next
next_of (Goes h w) out = goes h.second h.first (work_of w out)
next_of (Stops w) out = stops (work_of w out)

-- x is the byte behind the item: b joins it to a left side that waits for b, c joins that to one that waits for c, any other byte ends the chain.
unfoldable pub followed : (b c keep x : ℕ) → (o a : Bool) → Work → Next
followed b c keep x o a w =
    let u = put_if a b w in
    let v = put_if o c u in
    cond (eqb x b) (goes o true (put keep u)) (cond (eqb x c) (goes true false (put keep v)) (stops v))

-- The byte that closes a path mark, which is also the instruction that ends the path, by the byte that opens it.
abbrev pub end_of : ℕ → ℕ
end_of b = cond (eqb b angle_open) code_some code_every

-- A fact with its number, read up to a place.
abbrev pub fact_by : ℕ → ℕ → Work → Got Work
fact_by f to w = ok (put f w) to

-- The work of a prefix that was read.
unfoldable pub opened : Prefix → Work → Work
opened bang w = put code_not w
opened (angle p) w = ended code_some (build_in p (put code_begin w))
opened (square p) w = ended code_every (build_in p (put code_begin w))

module _ (text : List ℕ) where
  -- `true` and a fact.
  unfoldable pub simple_at : ℕ → Got Formula
  simple_at at =
      let t = true_at text (at + 1) in
      let f = fact_at text (at + 1) in
      cond (eqb (byte text at) 116) t (cond (eqb (byte text at) sign_fact) f (bad at))

  -- A step of the work that was read.
  unfoldable pub stepped_by : Got Work → Got Work
  stepped_by (ok w at) =
      cond (eqb (byte text at) sign_back) (ok (stepped (code_step back) w) (at + 1))
      (cond (eqb (byte text at) sign_test) (ok (stepped (code_step stay) w) (at + 1))
      (ok (stepped (code_step ahead) w) at))
  stepped_by (bad at) = bad at
  stepped_by (deep at) = deep at

  -- As many `*` as there are, at most n, on the work.
  unfoldable pub stars_by : ℕ → Work → ℕ → Got Work
  stars_by zero w at = ok w at
  stars_by (suc n) w at = let r = stars_by n (put code_many w) (at + 1) in cond (eqb (byte text at) sign_star) r (ok w at)

  -- The stars behind a piece, on its work.
  abbrev pub stars_on : Got Work → Got Work
  stars_on (ok w at) = stars_by (length text) w at
  stars_on (bad at) = bad at
  stars_on (deep at) = deep at
