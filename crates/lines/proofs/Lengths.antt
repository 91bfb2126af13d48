-- How long a line is: a refusal, at most 512 entries of 6 bytes, the rule, a walk of at most 8,191 edges of at most 4 bytes.
use Prim.Native.Nat.{ℕ, zero, suc, ◌*◌, ◌≤◌, ◌<◌}
use mathlib.Core.Bool.{Bool, true, false, ◌&&◌}
use mathlib.Core.List.{List}
use native.Mathlib.Omega.{arith}
use lib.Dec.{ltb}
use lib.ListN.{length, get_or, length-append}
use Rattle.aldlf.specs.Constants.{node_limit, entry_limit, edge_limit}
use Rattle.aldlf.specs.Outcomes.{one, verdict_at}
use Rattle.lines.specs.Lines.{entries_in, verdict_digit, refused_at, refusal_line, sheet_refusal_line, entry_line, entries_below, rule_line, verdict_lines, edges_below, walk_line}
use Rattle.appending.proofs.Decimals.{decimal-length}

-- a refusal
refused_length : (q k : ℕ) → q < 1000 → k < 100000 → length (refused_at q k) ≤ 17
unfolding refused_at
refused_length q k hq hk = simp length-append (omega (arith, decimal-length 2 q hq, decimal-length 4 k hk))

pub refusal_length : (q k : ℕ) → q < 1000 → k < 100000 → length (refusal_line q k) ≤ 18
unfolding refusal_line
refusal_length q k hq hk = simp length-append (omega (arith, refused_length q k hq hk))

pub sheet_refusal_length : (q k f : ℕ) → q < 1000 → k < 100000 → f < 1000 → length (sheet_refusal_line q k f) ≤ 22
unfolding sheet_refusal_line
sheet_refusal_length q k f hq hk hf = simp length-append (omega (arith, refused_length q k hq hk, decimal-length 2 f hf))

verdict_le : (words : List ℕ) (i k : ℕ) → verdict_digit words i k < 10
verdict_le words i k = go (ltb k node_limit && (ltb i (entries_in words) && verdict_at words i k))
  where
    go : (b : Bool) → one b < 10
    go true = omega arith
    go false = omega arith

entry_length : (i v : ℕ) → i < 1000 → v < 10 → length (entry_line i v) ≤ 6
unfolding entry_line
entry_length i v hi hv = simp length-append (omega (arith, decimal-length 2 i hi, decimal-length 0 v hv))

entries_length : (rule : ℕ) (words : List ℕ) (n : ℕ) → n ≤ 1000 → length (entries_below rule words n) ≤ 6 * n
unfolding entries_below
entries_length rule words zero h = omega arith
entries_length rule words (suc n) h =
    let e = entry_line n (verdict_digit words n rule) in
    omega (arith, length-append (entries_below rule words n) e, entries_length rule words n (omega arith), entry_length n (verdict_digit words n rule) (omega arith) (verdict_le words n rule))

rule_length : (v held n : ℕ) → v < 10 → held < 1000 → n < 1000 → length (rule_line v held n) ≤ 23
unfolding rule_line
rule_length v held n hv hh hn = simp length-append (omega (arith, decimal-length 0 v hv, decimal-length 2 held hh, decimal-length 2 n hn))

pub verdicts_length : (rule held : ℕ) (words : List ℕ) → held ≤ entry_limit → entries_in words ≤ entry_limit → length (verdict_lines rule held words) ≤ 3095
unfolding verdict_lines
verdicts_length rule held words hh hw =
    let r = rule_line (verdict_digit words 0 rule) held (entries_in words) in
    omega (
      arith,
      length-append (entries_below rule words (entries_in words)) r,
      entries_length rule words (entries_in words) (omega arith),
      rule_length (verdict_digit words 0 rule) held (entries_in words) (verdict_le words 0 rule) (omega arith) (omega arith),
    )

edges_length : (es : List ℕ) (n : ℕ) → ((x : ℕ) → get_or es x 0 < edge_limit) → length (edges_below es n) ≤ 4 * n
unfolding edges_below
edges_length es zero h = omega arith
edges_length es (suc n) h =
    simp length-append (omega (arith, edges_length es n h, decimal-length 2 (get_or es n 0) (omega (arith, h n))))

pub walk_length : (es : List ℕ) → length es ≤ 8191 → ((x : ℕ) → get_or es x 0 < edge_limit) → length (walk_line es) ≤ 32774
unfolding walk_line
walk_length es l h = simp length-append (omega (arith, decimal-length 3 (length es) (omega arith), edges_length es (length es) h))
