-- The logs one after the other: what stands in both buffers once the first k logs are judged, one log more, and the end of the list.
use Prim.Native.Nat.{ℕ, zero, suc, ◌+◌, ◌*◌, ◌-◌, ◌≤◌, ◌<◌}
use native.Mathlib.Omega.{arith}
use native.Mathlib.Numerals.{add-one}
use mathlib.Core.Path.{◌≡◌, refl, sym, ap, ap₂, ◌∙◌}
use mathlib.Core.List.{List, [], ◌∷◌, ◌++◌, append-nil, append_assoc}
use lib.ListN.{length, take, drop, set, get_or, length-append, length-drop}
use lib.Seq.{drop-cons, drop-drop, take_at, drop_at, set_at, append_snoc, take_all, length-take-le}
use Rattle.aldlf.specs.Sheet.{Sheet}
use Rattle.aldlf.specs.Verdict.{plain}
use Rattle.aldlf.specs.Outcomes.{log_words, held_in}
use Rattle.aldlf.proofs.Words.{words_length}
use Rattle.batch.specs.Right.{log_at}
use Rattle.batch.specs.Batch.{logs_of, total, words_of, counts_of, first_log, fits, has_room, misfit, roomless, verdicts_after, held_after}
use Rattle.batch.proofs.Firsts.{Fits, fits_yes, room_yes, first_yes, total_next, total_all, misfit_yes}

-- One log more --------------------------------------------------------------------------------------------------------------

logs_next : (words ns : List ℕ) (k : ℕ) → k < length ns → logs_of words (take (suc k) ns) ≡ logs_of words (take k ns) ++ (log_at words ns k ∷ [])
logs_next words [] k h = absurd (omega arith)
logs_next words (n ∷ ns) zero h = refl
logs_next words (n ∷ ns) (suc k) h =
    ap (λ (l : List (List ℕ)). take n words ∷ l)
    (logs_next (drop n words) ns k (omega arith)
    ∙ ap (λ (l : List ℕ). logs_of (drop n words) (take k ns) ++ (take (get_or ns k 0) l ∷ [])) (drop-drop (total (take k ns)) n words))

words_snoc : (S : Sheet) (logs : List (List ℕ)) (log : List ℕ) → words_of S (logs ++ (log ∷ [])) ≡ words_of S logs ++ log_words S log
words_snoc S [] log = append-nil (log_words S log)
words_snoc S (l ∷ logs) log = ap (λ (w : List ℕ). log_words S l ++ w) (words_snoc S logs log) ∙ sym (append_assoc (log_words S l) (words_of S logs) (log_words S log))

counts_snoc : (S : Sheet) (logs : List (List ℕ)) (log : List ℕ) → counts_of S (logs ++ (log ∷ [])) ≡ counts_of S logs ++ (held_in S log ∷ [])
counts_snoc S [] log = refl
counts_snoc S (l ∷ logs) log = ap (λ (w : List ℕ). held_in S l ∷ w) (counts_snoc S logs log)

pub counts_long : (S : Sheet) (words ns : List ℕ) → length (counts_of S (logs_of words ns)) ≡ length ns
counts_long S words [] = refl
counts_long S words (n ∷ ns) = ap suc (counts_long S (drop n words) ns)

-- In a buffer -----------------------------------------------------------------------------------------------------------------

-- what was lent keeps its content after the new words
pub put_words : (front new lent : List ℕ) (at n : ℕ) → length front ≡ at → length new ≡ n → front ++ new ++ drop (at + n) lent ≡ take at (front ++ drop at lent) ++ (new ++ drop n (drop at (front ++ drop at lent)))
put_words front new lent at n e f =
    append_assoc front new (drop (at + n) lent)
    ∙ ap₂ (λ (a b : List ℕ). a ++ (new ++ b)) (sym (take_at front (drop at lent) at e))
    (sym (drop-drop n at lent) ∙ ap (drop n) (sym (drop_at front (drop at lent) at e)))

pub put_count : (front lent : List ℕ) (k x : ℕ) → length front ≡ k → k < length lent → set (front ++ drop k lent) k x ≡ (front ++ (x ∷ [])) ++ drop (k + 1) lent
put_count front lent k x e h =
    ap (λ (l : List ℕ). set (front ++ l) k x) (drop-cons lent k 0 h)
    ∙ set_at front (get_or lent k 0) (drop (suc k) lent) x k e
    ∙ sym (append_snoc front x (drop (suc k) lent))
    ∙ ap (λ (j : ℕ). (front ++ (x ∷ [])) ++ drop j lent) (sym (add-one k))

-- The loop ------------------------------------------------------------------------------------------------------------------

-- the first k logs are judged and log k, if there is one, starts at `at`; it and those after it are there and have their room
pub record Judged (S : Sheet) (words ns lent lentHeld verdicts held : List ℕ) (at k : ℕ) : Type 0 where
  pub k≤ : k ≤ length ns
  pub place : at ≡ total (take k ns)
  pub fit : first_log (fits (length words)) k at (drop k ns) ≡ 0
  pub room : first_log (has_room (length lent) (length lentHeld)) k at (drop k ns) ≡ 0
  pub in_words : at ≤ length words
  pub in_lent : 2 * at ≤ length lent
  pub held≤ : k ≤ length lentHeld
  pub front : length (words_of S (logs_of words (take k ns))) ≡ 2 * at
  pub words_are : verdicts ≡ words_of S (logs_of words (take k ns)) ++ drop (2 * at) lent
  pub counts_are : held ≡ counts_of S (logs_of words (take k ns)) ++ drop k lentHeld

pub start : (S : Sheet) (words ns lent lentHeld : List ℕ) → misfit (length words) ns ≡ 0 → roomless (length lent) (length lentHeld) ns ≡ 0 → Judged S words ns lent lentHeld lent lentHeld 0 0
start S words ns lent lentHeld m r = record {
  k≤ = omega arith;
  place = refl;
  fit = (misfit_yes (length words) ns m).0;
  room = r;
  in_words = omega arith;
  in_lent = omega arith;
  held≤ = omega arith;
  front = refl;
  words_are = refl;
  counts_are = refl;
}

-- what is known of log k
pub record Turn (words ns lent lentHeld : List ℕ) (at k : ℕ) : Type 0 where
  pub log : Fits (length words) k at (get_or ns k 0)
  pub verdicts_room : 2 * (at + get_or ns k 0) ≤ length lent
  pub held_room : k < length lentHeld
  pub fit : first_log (fits (length words)) (k + 1) (at + get_or ns k 0) (drop (k + 1) ns) ≡ 0
  pub room : first_log (has_room (length lent) (length lentHeld)) (k + 1) (at + get_or ns k 0) (drop (k + 1) ns) ≡ 0

module _ (S : Sheet) (words ns lent lentHeld verdicts held : List ℕ) (at k : ℕ) (J : Judged S words ns lent lentHeld verdicts held at k) where
  pub same_verdicts : length verdicts ≡ length lent
  same_verdicts = ap length J.words_are ∙ length-append (words_of S (logs_of words (take k ns))) (drop (2 * at) lent) ∙ omega (arith, J.front, length-drop (2 * at) lent, J.in_lent)

  pub same_held : length held ≡ length lentHeld
  same_held =
      let front = counts_of S (logs_of words (take k ns)) in
      ap length J.counts_are ∙ length-append front (drop k lentHeld)
      ∙ omega (arith, counts_long S words (take k ns), length-take-le k ns J.k≤, length-drop k lentHeld, J.held≤)

  module _ (h : k < length ns) where
    pub turn : Turn words ns lent lentHeld at k
    turn =
        let f = first_yes (fits (length words)) ns k at h J.fit in
        let r = first_yes (has_room (length lent) (length lentHeld)) ns k at h J.room in
        let y = room_yes (length lent) (length lentHeld) k at (get_or ns k 0) r.0 J.in_lent in
        record { log = fits_yes (length words) k at (get_or ns k 0) f.0; verdicts_room = y.0; held_room = y.1; fit = f.1; room = r.1 }

    -- how many words the code cuts out at its place
    abbrev m : ℕ
    m = at + get_or ns k 0 - at

    size : m ≡ get_or ns k 0
    size = omega arith

    here : take m (drop at words) ≡ log_at words ns k
    here = ap₂ (λ (a b : ℕ). take a (drop b words)) size J.place

    pub log_long : length (take m (drop at words)) ≡ get_or ns k 0
    log_long = length-take-le m (drop at words) (omega (arith, length-drop at words, turn.log.there)) ∙ size

    -- and how many places of the verdicts
    abbrev v : ℕ
    v = 2 * (at + get_or ns k 0) - 2 * at

    twice : v ≡ 2 * get_or ns k 0
    twice = omega arith

    pub room_long : length (take v (drop (2 * at) verdicts)) ≡ 2 * length (take m (drop at words))
    room_long = length-take-le v (drop (2 * at) verdicts) (omega (arith, length-drop (2 * at) verdicts, same_verdicts, turn.verdicts_room)) ∙ omega (arith, twice, log_long)

    words_next : words_of S (logs_of words (take (k + 1) ns)) ≡ words_of S (logs_of words (take k ns)) ++ log_words S (take m (drop at words))
    words_next =
        ap (λ (j : ℕ). words_of S (logs_of words (take j ns))) (add-one k) ∙ ap (words_of S) (logs_next words ns k h) ∙ words_snoc S (logs_of words (take k ns)) (log_at words ns k)
        ∙ ap (λ (l : List ℕ). words_of S (logs_of words (take k ns)) ++ log_words S l) (sym here)

    counts_next : counts_of S (logs_of words (take (k + 1) ns)) ≡ counts_of S (logs_of words (take k ns)) ++ (held_in S (take m (drop at words)) ∷ [])
    counts_next =
        ap (λ (j : ℕ). counts_of S (logs_of words (take j ns))) (add-one k) ∙ ap (counts_of S) (logs_next words ns k h) ∙ counts_snoc S (logs_of words (take k ns)) (log_at words ns k)
        ∙ ap (λ (l : List ℕ). counts_of S (logs_of words (take k ns)) ++ (held_in S l ∷ [])) (sym here)

    pub next : (new : List ℕ) (x : ℕ) → new ≡ log_words S (take m (drop at words)) → x ≡ held_in S (take m (drop at words))
        → Judged S words ns lent lentHeld (take (2 * at) verdicts ++ (new ++ drop v (drop (2 * at) verdicts))) (set held k x) (at + get_or ns k 0) (k + 1)
    next new x e f =
        let front = words_of S (logs_of words (take k ns)) in
        let counts = counts_of S (logs_of words (take k ns)) in
        let log = take m (drop at words) in
        let long : length (log_words S log) ≡ 2 * get_or ns k 0 = words_length S (plain S) log ∙ ap (λ (n : ℕ). 2 * n) log_long in
        let end : 2 * at + v ≡ 2 * (at + get_or ns k 0) = omega arith in
        let few : length counts ≡ k = counts_long S words (take k ns) ∙ length-take-le k ns J.k≤ in
        record {
          k≤ = omega arith;
          place = omega (arith, J.place, total_next ns k h);
          fit = turn.fit;
          room = turn.room;
          in_words = turn.log.there;
          in_lent = turn.verdicts_room;
          held≤ = omega (arith, turn.held_room);
          front = ap length words_next ∙ length-append front (log_words S log) ∙ omega (arith, J.front, long);
          words_are =
              ap₂ (λ (l w : List ℕ). take (2 * at) l ++ (w ++ drop v (drop (2 * at) l))) J.words_are e
              ∙ sym (put_words front (log_words S log) lent (2 * at) v J.front (long ∙ sym twice))
              ∙ ap₂ (λ (w : List ℕ) (j : ℕ). w ++ drop j lent) (sym words_next) end;
          counts_are =
              ap₂ (λ (l : List ℕ) (y : ℕ). set l k y) J.counts_are f
              ∙ put_count counts lentHeld k (held_in S log) few turn.held_room
              ∙ ap (λ (w : List ℕ). w ++ drop (k + 1) lentHeld) (sym counts_next);
        }

  -- every log is judged
  module _ (m : misfit (length words) ns ≡ 0) (e : length ns ≤ k) where
    pub all_words : verdicts ≡ verdicts_after S words ns lent
    all_words =
        let end : at ≡ length words = omega (arith, J.place, total_all ns k e, (misfit_yes (length words) ns m).1, J.in_words) in
        J.words_are
        ∙ ap (λ (l : List ℕ). words_of S (logs_of words l) ++ drop (2 * at) lent) (take_all k ns e)
        ∙ ap (λ (a : ℕ). words_of S (logs_of words ns) ++ drop (2 * a) lent) end

    pub all_counts : held ≡ held_after S words ns lentHeld
    all_counts =
        let end : k ≡ length ns = omega (arith, J.k≤) in
        J.counts_are
        ∙ ap (λ (l : List ℕ). counts_of S (logs_of words l) ++ drop k lentHeld) (take_all k ns e)
        ∙ ap (λ (j : ℕ). counts_of S (logs_of words ns) ++ drop j lentHeld) end
