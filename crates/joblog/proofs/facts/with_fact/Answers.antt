-- with_fact meets its contract: a fact too large, one that does not rise, and one more bit, which lies above all bits of the word. Assumes nothing.
use Rattle.std.proofs.Common.{◌≡◌, refl, ◌*◌, ◌%◌, ◌^◌, arith, rules}
use Rattle.joblog.proofs.LineFacts.{seen_large, seen_fallen, seen_more, word_more}
use Rattle.joblog.proofs.facts.with_fact.Goals as goal

pub returns-then-f-ge-FACTS : goal.returns-then-f-ge-FACTS
returns-then-f-ge-FACTS c =
    let a = c.args in
    (seen_large a.s a.f c.if-f-ge-FACTS.true, record { least≤ = c.requires.least≤; word< = c.requires.word< })

pub returns-then-f-s : goal.returns-then-f-s
returns-then-f-s c =
    let a = c.args in
    (seen_fallen a.s a.f c.if-f-ge-FACTS.false c.if-f-s.true, record { least≤ = c.requires.least≤; word< = c.requires.word< })

pub returns : goal.returns
returns c =
    let a = c.args in
    let bit : 1 * 2 ^ a.f % 4294967296 ≡ 2 ^ a.f = search rules in
    rw bit (seen_more a.s a.f (2 ^ a.f) c.if-f-ge-FACTS.false c.if-f-s.false refl, record { least≤ = omega arith; word< = word_more a.s.least a.s.word a.f (2 ^ a.f) c.if-f-s.false c.requires.word< refl })
