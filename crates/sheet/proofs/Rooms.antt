-- A line that passes fits the places of a table that lines have built.
use Prim.Native.Nat.{◌-◌, ◌<◌}
use mathlib.Core.Path.{◌≡◌, ap, ◌∙◌}
use mathlib.Core.Bool.{true}
use mathlib.Core.Logic.{inl, inr}
use native.Mathlib.Nat.{lt_of_lt_of_le}
use native.Mathlib.Omega.{arith}
use lib.Pow.{pow_mono}
use Rattle.aldlf.specs.Constants.{state_limit, letter_m, letter_g, letter_e}
use Rattle.sheet.specs.declared.line.Line.{Line}
use Rattle.sheet.specs.declared.build.Reading.{Reading}
use Rattle.sheet.specs.Questions.{arity, last}
use Rattle.sheet.specs.Given.{edges_before, nodes_before}
use Rattle.sheet.specs.Room.{AutomatonRoom, AcceptingRoom, EdgeRoom, LineRoom}
use Rattle.sheet.proofs.Letters.{Kind, kind_of, is_t, is_f, is_p, is_n, is_g, is_a, is_o, is_d, is_b, is_m, is_e, is_none}
use Rattle.sheet.proofs.Words.{clear_fits}
use Rattle.sheet.proofs.Fits.{edges_last}
use Rattle.sheet.proofs.Passed.{Passed, Absent, said_M, said_G, said_E, said_count, said_room, said_P, said_N, said_two, said_walk}
use Rattle.sheet.proofs.Grown.{AutoOk, Grown}

module _ (r : Reading) (l : Line) (g : Grown r.table r.inside) (p : Passed r l) (z : Absent l) where
  room_M : l.letter ≡ letter_m → AutomatonRoom r.table l
  room_M e =
      let s = said_M r l p e in
      record { room = s.room; a< = omega arith; b< = omega arith }

  -- the automaton that a G or E line belongs to
  own : r.inside ≡ true → AutoOk r.table.used.nodes (edges_before r.table.automata (r.table.used.automata - 1)) (nodes_before r.table.automata (r.table.used.automata - 1)) (last r.table)
  own i = g.automata (r.table.used.automata - 1) (omega (arith, (g.inside i).0))

  room_G : l.letter ≡ letter_g → AcceptingRoom r.table l
  room_G e =
      let s = said_G r l p e in
      let o = own s.in_M in
      let a16 : l.a < state_limit = omega (arith, s.range, o.states≤) in
      record {
        some = (g.inside s.in_M).0;
        automata≤ = g.automata≤;
        a< = a16;
        sum< = clear_fits state_limit (last r.table).accepting l.a a16 (lt_of_lt_of_le o.accepting< (pow_mono o.states≤)) s.clear;
      }

  room_E : l.letter ≡ letter_e → EdgeRoom r.table l
  room_E e =
      let s = said_E r l p e in
      let o = own s.in_M in
      let one = (g.inside s.in_M).0 in
      let q = o.states≤ in
      let n = g.nodes≤ in
      let w = edges_last r.table.automata r.table.used.automata one in
      let u = g.total in
      record {
        some = one;
        automata≤ = g.automata≤;
        room = s.room;
        own≤ = omega arith;
        a< = omega arith;
        b< = omega arith;
        c< = omega arith;
        d< = omega arith;
      }

  small : Kind l.letter → (l.letter ≡ letter_m → ⊥) → (l.letter ≡ letter_g → ⊥) → (l.letter ≡ letter_e → ⊥) → (l.a < 256) × (l.b < 256)
  small (is_t e) m a h = let n : l.count ≡ 0 = said_count r l p ∙ ap arity e in omega (arith, z.a0 (omega arith), z.b0 (omega arith))
  small (is_f e) m a h = let n : l.count ≡ 0 = said_count r l p ∙ ap arity e in omega (arith, z.a0 (omega arith), z.b0 (omega arith))
  small (is_p e) m a h = let n : l.count ≡ 1 = said_count r l p ∙ ap arity e in omega (arith, said_P r l p e, z.b0 (omega arith))
  small (is_n e) m a h = let n : l.count ≡ 1 = said_count r l p ∙ ap arity e in omega (arith, said_N r l p e, g.nodes≤, z.b0 (omega arith))
  small (is_g e) m a h = absurd (a e)
  small (is_a e) m a h = omega (arith, said_two r l p (inl e), g.nodes≤)
  small (is_o e) m a h = omega (arith, said_two r l p (inr e), g.nodes≤)
  small (is_d e) m a h = omega (arith, said_walk r l p (inl e), g.nodes≤, g.automata≤)
  small (is_b e) m a h = omega (arith, said_walk r l p (inr e), g.nodes≤, g.automata≤)
  small (is_m e) m a h = absurd (m e)
  small (is_e e) m a h = absurd (h e)
  small (is_none e) m a h = let n : l.count ≡ 9 = said_count r l p ∙ e in absurd (omega (arith, z.few))

  pub room_of : LineRoom r.table l
  room_of =
      record {
        automaton = room_M;
        accepting = room_G;
        edge = room_E;
        node = λ m a e. let s = small (kind_of l.letter) m a e in record { room = said_room r l p m a e; a< = s.0; b< = s.1 };
      }
