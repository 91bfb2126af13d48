-- What the instructions that keep something and those that draw a path do to the counts, the stack and the links, where there is room and where there is none.
use Prim.Native.Nat.{ℕ, ◌+◌, ◌-◌, ◌≤◌, ◌<◌}
use mathlib.Core.Path.{◌≡◌, refl, ap, sym, ◌∙◌}
use mathlib.Core.Bool.{Bool, true, false, ◌||◌}
use mathlib.Core.List.{List, [], ◌∷◌, ◌++◌}
use native.Mathlib.Omega.{arith}
use lib.Dec.{eqb, ltb}
use lib.ListN.{length, get_or, take, drop, set, length-set}
use lib.Seq.{length-take-le, take-suc, take_all}
use native.Mathlib.Numerals.{add-one}
use borrow.Author.Tests.{ne_eqb, lt-ltb, le-ltb, ltb-true, ltb-false}
use Rattle.std.specs.Prelude.{Option, Some, None}
use Rattle.std.proofs.lemmas.List.{take-append-drop}
use Rattle.aldlf.specs.Constants.{edge_limit, letter_n}
use Rattle.aldlf.specs.declared.State.{State}
use Rattle.aldlf.specs.declared.NodeLine.{NodeLine}
use Rattle.aldlf.specs.declared.Edge.{Edge}
use Rattle.aldlf.specs.declared.Automaton.{Automaton}
use Rattle.aldlf.specs.declared.Table.{Table}
use Rattle.packing.specs.Numbers.{edge_in}
use Rattle.formula.specs.Numbering.{edge_of, link, newest}
use Rattle.making.specs.declared.stack.Kept.{Kept}
use Rattle.making.specs.declared.counts.Counts.{Counts}
use Rattle.making.specs.Work.{Outline, Made, over, live, newest_of, part_of, frame_of, begun, linked, ended, between, four_linked, step_drawn, seq_drawn, alt_drawn, star_drawn}
use Rattle.making.specs.Run.{bench, last_of, rest_of, kept_by, kept_on, begun_on, is_step, draws, dir_of, drawn_on}
use Rattle.making.specs.Numbers.{kept_of, edges_in, table_in, outline_in, work_in, bench_in, ended_in, topped_in, all_linked, Sized, Drawn, KeptMore, PathDrawn}
use Rattle.making.proofs.Lists.{stored, first_length}
use Rattle.making.proofs.Lines.{some_as, bench_made}

-- WHAT IS KEPT
module _ (t : Table) (o : Outline) (op : ℕ) where
  node_by : (n : ℕ) → op ≡ 44 → n ≡ t.used.nodes - 1 → ◌≡◌ {A = Kept} (record { a = n; b = 0; c = 0; d = 0 }) (kept_by op (live t o))
  unfolding kept_by newest_of
  node_by n h e = rw (h, e)

  part_by : ¬ (op ≡ 44) → ¬ (op ≡ 33) → ◌≡◌ {A = Kept} (record { a = o.entry; b = o.exit; c = 0; d = 0 }) (kept_by op (live t o))
  unfolding kept_by part_of
  part_by h i = rw (ne_eqb op 44 h, ne_eqb op 33 i)

module _ (c : Counts) (op : ℕ) where
  pub kept_node : (n : ℕ) → op ≡ 44 → n ≡ c.nodes - 1 → (ns : List NodeLine) (ms : List Automaton) (es ks : List Edge)
      → ◌≡◌ {A = Kept} (record { a = n; b = 0; c = 0; d = 0 }) (kept_by op (work_in c ns ms es ks))
  kept_node n h e ns ms es ks = node_by (table_in c ns ms es) (outline_in c ks) op n h e

  pub kept_mark : op ≡ 33 → (w : Made) → ◌≡◌ {A = Kept} (record { a = letter_n; b = 0; c = 0; d = 0 }) (kept_by op w)
  unfolding kept_by
  kept_mark h w = rw h

  pub kept_part : ¬ (op ≡ 44) → ¬ (op ≡ 33) → (ns : List NodeLine) (ms : List Automaton) (es ks : List Edge)
      → ◌≡◌ {A = Kept} (record { a = c.entry.0; b = c.exit.0; c = 0; d = 0 }) (kept_by op (work_in c ns ms es ks))
  kept_part h i ns ms es ks = part_by (table_in c ns ms es) (outline_in c ks) op h i

  pub keep_more : (r : Counts) (k : Kept) (st su : List ℕ) → r ≡ topped_in (c.top + 1) c → Sized c → ((ns : List NodeLine) (ms : List Automaton) (es ks : List Edge) → k ≡ kept_by op (work_in c ns ms es ks))
      → kept_of su (c.top + 1) ≡ k ∷ kept_of st c.top → KeptMore (kept_on op) c (Some r) st su
  keep_more r k st su e s f g =
      rw e
      (record {
        work = λ ns ms es ks l. ap (bench (work_in c ns ms es ks)) (g ∙ ap (λ (x : Kept). x ∷ kept_of st c.top) (f ns ms es ks));
        top = omega arith;
        sized = s;
      })

-- A PATH BEGINS
abbrev begun_in : Counts → Counts
begun_in c =
    record {
      nodes = c.nodes;
      automata = c.automata;
      edges = c.edges;
      links = c.links;
      states = 0;
      base = c.links;
      entry = record { 0 = 0 };
      exit = record { 0 = 0 };
      top = c.top + 1;
    }

abbrev frame_in : Counts → Kept
frame_in c = record { a = c.entry.0; b = c.exit.0; c = c.states; d = c.base }

module _ (c : Counts) (st su : List ℕ) where
  begin_yes : c.edges + c.links < edge_limit → kept_of su (c.top + 1) ≡ frame_in c ∷ kept_of st c.top → (ns : List NodeLine) (ms : List Automaton) (es ks : List Edge) → length ks ≡ edge_limit
      → bench_in (begun_in c) ns ms es ks su ≡ begun_on (work_in c ns ms es ks) (kept_of st c.top)
  unfolding begun frame_of
  begin_yes h e ns ms es ks l =
      let n : length (take c.links ks) ≡ c.links = length-take-le c.links ks (omega arith) in
      rw (n, lt-ltb (c.edges + c.links) edge_limit h, e)

  pub begun_yes : (y : Bool) → y ≡ ltb (c.edges + c.links) edge_limit → y ≡ true → Sized c → kept_of su (c.top + 1) ≡ frame_in c ∷ kept_of st c.top → KeptMore begun_on c (Some (begun_in c)) st su
  begun_yes y f h s e =
      let z = ltb-true (c.edges + c.links) edge_limit (sym f ∙ h) in
      record { work = λ ns ms es ks l. begin_yes z e ns ms es ks l; top = omega arith; sized = s }

  begin_no : edge_limit ≤ c.edges + c.links → Sized c → (ns : List NodeLine) (ms : List Automaton) (es ks : List Edge) → length ks ≡ edge_limit
      → bench over [] ≡ begun_on (work_in c ns ms es ks) (kept_of st c.top)
  unfolding begun
  begin_no h s ns ms es ks l =
      let n : length (take c.links ks) ≡ c.links = length-take-le c.links ks (omega arith) in
      rw (n, le-ltb (c.edges + c.links) edge_limit h)

  pub begun_no : (y : Bool) → y ≡ ltb (c.edges + c.links) edge_limit → y ≡ false → Sized c → KeptMore begun_on c None st st
  begun_no y f h s =
      let z = ltb-false (c.edges + c.links) edge_limit (sym f ∙ h) in
      record { work = λ ns ms es ks l. begin_no z s ns ms es ks l; top = tt; sized = tt }

-- ONE LINK MORE
abbrev linked_in : Counts → Counts
linked_in c =
    record {
      nodes = c.nodes;
      automata = c.automata;
      edges = c.edges;
      links = c.links + 1;
      states = c.states;
      base = c.base;
      entry = c.entry;
      exit = c.exit;
      top = c.top;
    }

pub link_place : (c : Counts) (y : Bool) → y ≡ ltb (c.edges + c.links) edge_limit → y ≡ true → c.edges + c.links < edge_limit
link_place c y f h = ltb-true (c.edges + c.links) edge_limit (sym f ∙ h)

module _ (c : Counts) (xs : List ℕ) (long : length xs ≡ edge_limit) where
  link_yes : (p : ℕ) (e : Edge) → c.edges + c.links < edge_limit → edge_in p ≡ e → (ns : List NodeLine) (ms : List Automaton) (es : List Edge)
      → work_in (linked_in c) ns ms es (edges_in (set xs c.links p)) ≡ linked e (work_in c ns ms es (edges_in xs))
  unfolding linked
  link_yes p e h f ns ms es =
      rw (first_length edge_in xs c.links (omega arith), lt-ltb (c.edges + c.links) edge_limit h, stored edge_in xs c.links p e (omega arith) f)

  pub drawn_link : (p : ℕ) (e : Edge) → c.edges + c.links < edge_limit → edge_in p ≡ e → Drawn (linked e) c (Some (linked_in c)) xs (set xs c.links p)
  drawn_link p e h f =
      record { work = λ ns ms es. link_yes p e h f ns ms es; top = refl; sized = omega arith; long = length-set xs c.links p ∙ long }

  -- a limit is passed
  pub drawn_none : (f : Made → Made) → ((ns : List NodeLine) (ms : List Automaton) (es : List Edge) → over ≡ f (work_in c ns ms es (edges_in xs))) → Drawn f c None xs xs
  drawn_none f g = record { work = g; top = tt; sized = tt; long = long }

  link_no : (e : Edge) → edge_limit ≤ c.edges + c.links → Sized c → (ns : List NodeLine) (ms : List Automaton) (es : List Edge) → over ≡ linked e (work_in c ns ms es (edges_in xs))
  unfolding linked
  link_no e h s ns ms es = rw (first_length edge_in xs c.links (omega arith), le-ltb (c.edges + c.links) edge_limit h)

  pub drawn_full : (y : Bool) (e : Edge) → y ≡ ltb (c.edges + c.links) edge_limit → y ≡ false → Sized c → Drawn (linked e) c None xs xs
  drawn_full y e f h s = drawn_none (linked e) (λ ns ms es. link_no e (ltb-false (c.edges + c.links) edge_limit (sym f ∙ h)) s ns ms es)

-- one change after the other
pub drawn_then : {f g : Made → Made} {c x : Counts} {r : Option Counts} {xs ys zs : List ℕ} → Drawn f c (Some x) xs ys → Drawn g x r ys zs → Drawn (λ w. g (f w)) c r xs zs
drawn_then {f} {g} {r = r} d e = record { work = λ ns ms es. e.work ns ms es ∙ ap g (d.work ns ms es); top = some_as r e.top (λ y h. h ∙ d.top); sized = e.sized; long = e.long }

-- what no change brings back: a limit is passed
drawn_stop : {f : Made → Made} {c : Counts} {xs ys : List ℕ} (g : Made → Made) → over ≡ g over → Drawn f c None xs ys → Drawn (λ w. g (f w)) c None xs ys
drawn_stop g e d = record { work = λ ns ms es. e ∙ ap g (d.work ns ms es); top = tt; sized = tt; long = d.long }

-- the same change said otherwise
drawn_as : {f : Made → Made} {c : Counts} {r : Option Counts} {xs ys : List ℕ} (g : Made → Made) → Drawn f c r xs ys
    → ((ns : List NodeLine) (ms : List Automaton) (es : List Edge) → f (work_in c ns ms es (edges_in xs)) ≡ g (work_in c ns ms es (edges_in xs))) → Drawn g c r xs ys
drawn_as g d e = record { work = λ ns ms es. d.work ns ms es ∙ e ns ms es; top = d.top; sized = d.sized; long = d.long }

ended-in : (t : Table) (o : Outline) (s x y : ℕ) → live t (record { states = s; base = o.base; links = o.links; entry = x; exit = y }) ≡ ended s x y (live t o)
unfolding ended
ended-in t o s x y = refl

ended_over : (s x y : ℕ) → over ≡ ended s x y over
unfolding ended
ended_over s x y = refl

pub stop_ends : {f : Made → Made} {c : Counts} {xs ys : List ℕ} (s : ℕ) (a b : State) → Drawn f c None xs ys → Drawn (λ w. ended s a.0 b.0 (f w)) c None xs ys
stop_ends s a b d = drawn_stop (ended s a.0 b.0) (ended_over s a.0 b.0) d

pub drawn_ends : {f : Made → Made} {c x : Counts} {xs ys : List ℕ} (r : Counts) (s : ℕ) (a b : State) → Drawn f c (Some x) xs ys → r ≡ ended_in s a b x → Drawn (λ w. ended s a.0 b.0 (f w)) c (Some r) xs ys
drawn_ends {f} {c} {x} {xs} {ys} r s a b d e =
    rw e
    (record {
      work = λ ns ms es. ended-in (table_in x ns ms es) (outline_in x (edges_in ys)) s a.0 b.0 ∙ ap (ended s a.0 b.0) (d.work ns ms es);
      top = d.top;
      sized = d.sized;
      long = d.long;
    })

-- LINKS ONE AFTER THE OTHER, from a list
link-over : (e : Edge) → over ≡ linked e over
unfolding linked
link-over e = refl

links-over : (es : List Edge) → over ≡ all_linked es over
unfolding all_linked
links-over [] = refl
links-over (e ∷ es) = links-over es ∙ ap (all_linked es) (link-over e)

links_app : (es fs : List Edge) (w : Made) → all_linked (es ++ fs) w ≡ all_linked fs (all_linked es w)
unfolding all_linked
links_app [] fs w = refl
links_app (e ∷ es) fs w = links_app es fs (linked e w)

links_next : (es : List Edge) (i : ℕ) (d : Edge) (w : Made) → i < length es → all_linked (take (i + 1) es) w ≡ linked (get_or es i d) (all_linked (take i es) w)
unfolding all_linked
links_next es i d w h = rw (add-one, take-suc es i d h) (links_app (take i es) (get_or es i d ∷ []) w)

-- none yet, one more, and the rest that is left undone
pub four_none : (c : Counts) (xs : List ℕ) → Sized c → length xs ≡ edge_limit → (es : List Edge) → Drawn (all_linked (take 0 es)) c (Some c) xs xs
unfolding all_linked
four_none c xs s l [] = record { work = λ ns ms es. refl; top = refl; sized = s; long = l }
four_none c xs s l (e ∷ fs) = record { work = λ ns ms es. refl; top = refl; sized = s; long = l }

pub four_next : {c x : Counts} {r : Option Counts} {xs ys zs : List ℕ} (es : List Edge) (i : ℕ) (d : Edge) → i < length es → Drawn (all_linked (take i es)) c (Some x) xs ys → Drawn (linked (get_or es i d)) x r ys zs
    → Drawn (all_linked (take (i + 1) es)) c r xs zs
four_next {c} {x} {r} {xs} {ys} {zs} es i d h f g = drawn_as (all_linked (take (i + 1) es)) (drawn_then f g) (λ ns ms ks. sym (links_next es i d (work_in c ns ms ks (edges_in xs)) h))

pub four_stop : {c : Counts} {xs ys : List ℕ} (es : List Edge) (i : ℕ) → Drawn (all_linked (take i es)) c None xs ys → Drawn (all_linked es) c None xs ys
four_stop {c} {xs} es i d =
    drawn_as (all_linked es) (drawn_stop (all_linked (drop i es)) (links-over (drop i es)) d)
    (λ ns ms ks. sym (links_app (take i es) (drop i es) (work_in c ns ms ks (edges_in xs))) ∙ ap (λ (l : List Edge). all_linked l (work_in c ns ms ks (edges_in xs))) (take-append-drop i es))

pub four_all : {c : Counts} {r : Option Counts} {xs ys : List ℕ} (es : List Edge) (i : ℕ) → length es ≤ i → Drawn (all_linked (take i es)) c r xs ys → Drawn (all_linked es) c r xs ys
four_all es i h d = rw (take_all i es h) at d

-- STEPS AND OPERATORS of a path: where there is room for two states, and where there is none
module _ (t : Table) (o : Outline) where
  step_as : (d : ℕ) → o.states < 15 → between o.states (linked (edge_of o.states d (newest t) (o.states + 1)) (live t o)) ≡ step_drawn d (live t o)
  unfolding step_drawn ended linked
  step_as d h = rw (lt-ltb o.states 15 h)

  step_over : (d : ℕ) → 15 ≤ o.states → over ≡ step_drawn d (live t o)
  unfolding step_drawn
  step_over d h = rw (le-ltb o.states 15 h)

  seq_as : (l : Kept) → ended o.states l.a o.exit (linked (link l.b o.entry) (live t o)) ≡ seq_drawn l (live t o)
  unfolding seq_drawn ended linked
  seq_as l = refl

  alt_as : (l : Kept) → o.states < 15
      → between o.states (four_linked (link o.states l.a) (link o.states o.entry) (link l.b (o.states + 1)) (link o.exit (o.states + 1)) (live t o)) ≡ alt_drawn l (live t o)
  unfolding alt_drawn ended linked
  alt_as l h = rw (lt-ltb o.states 15 h)

  alt_over : (l : Kept) → 15 ≤ o.states → over ≡ alt_drawn l (live t o)
  unfolding alt_drawn
  alt_over l h = rw (le-ltb o.states 15 h)

  star_as : o.states < 15
      → between o.states (four_linked (link o.states o.entry) (link o.exit o.entry) (link o.exit (o.states + 1)) (link o.states (o.states + 1)) (live t o)) ≡ star_drawn (live t o)
  unfolding star_drawn ended linked
  star_as h = rw (lt-ltb o.states 15 h)

  star_over : 15 ≤ o.states → over ≡ star_drawn (live t o)
  unfolding star_drawn
  star_over h = rw (le-ltb o.states 15 h)

module _ (c : Counts) (r : Option Counts) (xs ys : List ℕ) where
  pub step-drawn : (d n : ℕ) → n ≡ c.nodes - 1 → c.states < 15 → Drawn (λ w. between c.states (linked (edge_of c.states d n (c.states + 1)) w)) c r xs ys → Drawn (step_drawn d) c r xs ys
  step-drawn d n q h e = drawn_as (step_drawn d) (rw q at e) (λ ns ms es. step_as (table_in c ns ms es) (outline_in c (edges_in xs)) d h)

  pub seq-drawn : (l : Kept) (e : Edge) → e ≡ link l.b c.entry.0 → Drawn (λ w. ended c.states l.a c.exit.0 (linked e w)) c r xs ys → Drawn (seq_drawn l) c r xs ys
  seq-drawn l e q d = drawn_as (seq_drawn l) (rw q at d) (λ ns ms es. seq_as (table_in c ns ms es) (outline_in c (edges_in xs)) l)

  -- four links that are those of `+`, of `*`
  pub alt-drawn : (l : Kept) (e f g h : Edge) → c.states < 15 → e ≡ link c.states l.a → f ≡ link c.states c.entry.0 → g ≡ link l.b (c.states + 1) → h ≡ link c.exit.0 (c.states + 1)
      → Drawn (λ w. between c.states (all_linked (e ∷ f ∷ g ∷ h ∷ []) w)) c r xs ys → Drawn (alt_drawn l) c r xs ys
  unfolding all_linked
  alt-drawn l e f g h n e' f' g' h' d =
      drawn_as (alt_drawn l) (rw (e', f', g', h') at d) (λ ns ms es. alt_as (table_in c ns ms es) (outline_in c (edges_in xs)) l n)

  pub star-drawn : (e f g h : Edge) → c.states < 15 → e ≡ link c.states c.entry.0 → f ≡ link c.exit.0 c.entry.0 → g ≡ link c.exit.0 (c.states + 1) → h ≡ link c.states (c.states + 1)
      → Drawn (λ w. between c.states (all_linked (e ∷ f ∷ g ∷ h ∷ []) w)) c r xs ys → Drawn star_drawn c r xs ys
  unfolding all_linked
  star-drawn e f g h n e' f' g' h' d =
      drawn_as star_drawn (rw (e', f', g', h') at d) (λ ns ms es. star_as (table_in c ns ms es) (outline_in c (edges_in xs)) n)

module _ (c : Counts) (xs : List ℕ) (long : length xs ≡ edge_limit) (h : 15 ≤ c.states) where
  pub step_full : (d : ℕ) → Drawn (step_drawn d) c None xs xs
  step_full d = drawn_none c xs long (step_drawn d) (λ ns ms es. step_over (table_in c ns ms es) (outline_in c (edges_in xs)) d h)

  pub alt_full : (l : Kept) → Drawn (alt_drawn l) c None xs xs
  alt_full l = drawn_none c xs long (alt_drawn l) (λ ns ms es. alt_over (table_in c ns ms es) (outline_in c (edges_in xs)) l h)

  pub star_full : Drawn star_drawn c None xs xs
  star_full = drawn_none c xs long star_drawn (λ ns ms es. star_over (table_in c ns ms es) (outline_in c (edges_in xs)) h)

-- BY THE INSTRUCTION
pub dir_ahead : (k : ℕ) → k ≡ 97 → 1 ≡ dir_of k
dir_ahead k e = rw e

pub dir_back : (k : ℕ) → k ≡ 98 → 2 ≡ dir_of k
dir_back k e = rw e

pub dir_stay : (k : ℕ) → ¬ (k ≡ 97) → ¬ (k ≡ 98) → 0 ≡ dir_of k
dir_stay k e f = rw (ne_eqb k 97 e, ne_eqb k 98 f)

pub draws_is : (k : ℕ) (b : Bool) → b ≡ is_step k → (b || eqb k 42 || eqb k 59 || eqb k 43) ≡ draws k
draws_is k b e = rw e

module _ (c : Counts) (r : Option Counts) (st xs ys : List ℕ) (op : ℕ) where
  pub path_step : (d : ℕ) (b : Bool) → b ≡ is_step op → b ≡ true → d ≡ dir_of op → Drawn (step_drawn d) c r xs ys → PathDrawn (drawn_on op) c r st xs ys
  unfolding drawn_on
  path_step d b e h f g =
      record {
        work = λ ns ms es. rw (sym e ∙ h, ← f) (bench_made r ns ms es (edges_in ys) st _ _ (g.work ns ms es) (some_as r g.top (λ x h. ap (kept_of st) h)));
        top = some_as r g.top (λ x h. omega arith);
        sized = g.sized;
        long = g.long;
      }

  pub path_star : op ≡ 42 → Drawn star_drawn c r xs ys → PathDrawn (drawn_on op) c r st xs ys
  unfolding drawn_on
  path_star h g =
      record { work = λ ns ms es. rw h (bench_made r ns ms es (edges_in ys) st _ _ (g.work ns ms es) (some_as r g.top (λ x h. ap (kept_of st) h))); top = some_as r g.top (λ x h. omega arith); sized = g.sized; long = g.long }

  module _ (k : Kept) (m : ℕ) (last : k ≡ last_of (kept_of st c.top)) (rest : kept_of st m ≡ rest_of (kept_of st c.top)) (less : m ≤ c.top) where
    pub path_seq : op ≡ 59 → Drawn (seq_drawn k) (topped_in m c) r xs ys → PathDrawn (drawn_on op) c r st xs ys
    unfolding drawn_on
    path_seq h g =
        record {
          work = λ ns ms es. rw (h, ← last) (bench_made r ns ms es (edges_in ys) st _ _ (g.work ns ms es) (some_as r g.top (λ x h. ap (kept_of st) h ∙ rest)));
          top = some_as r g.top (λ x h. omega arith);
          sized = g.sized;
          long = g.long;
        }

    pub path_alt : (b : Bool) → b ≡ is_step op → b ≡ false → ¬ (op ≡ 42) → ¬ (op ≡ 59) → Drawn (alt_drawn k) (topped_in m c) r xs ys → PathDrawn (drawn_on op) c r st xs ys
    unfolding drawn_on
    path_alt b e f h i g =
        record {
          work = λ ns ms es. rw (sym e ∙ f, ne_eqb op 42 h, ne_eqb op 59 i, ← last) (bench_made r ns ms es (edges_in ys) st _ _ (g.work ns ms es) (some_as r g.top (λ x h. ap (kept_of st) h ∙ rest)));
          top = some_as r g.top (λ x h. omega arith);
          sized = g.sized;
          long = g.long;
        }
