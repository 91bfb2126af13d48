-- `walk_judged` meets its contract, question by question. Assumes nothing.
use Prim.Native.Nat.{ℕ, ◌+◌, ◌≤◌, ◌<◌}
use mathlib.Core.Path.{◌≡◌, ap, sym, subst, ◌∙◌}
use mathlib.Core.Bool.{true}
use mathlib.Core.List.{List}
use Rattle.reach.specs.Marks.{paired}
use Rattle.reach.proofs.Paired.{length-paired}
use lib.ListN.{length, get_or-replicate}
use Rattle.aldlf.specs.Constants.{automaton_limit, edge_limit}
use Rattle.aldlf.specs.declared.Automaton.{Automaton}
use Rattle.aldlf.specs.declared.NodeLine.{NodeLine}
use Rattle.aldlf.specs.declared.Table.{Table}
use Rattle.aldlf.specs.declared.Used.{Used}
use Rattle.packing.specs.Numbers.{lent_edge, lent_line, lent_used}
use Rattle.judge.proofs.GivenLaws.{in_sheet, line_there}
use Rattle.aldlf.specs.declared.Entry.{Entry}
use Rattle.sheet.specs.Facts.{node_at, automaton_at, Lent}
use Rattle.graph.specs.Arcs.{Chained, none}
use Rattle.graph.specs.Configurations.{graph_of, start_of, EdgeFits, Ready}
use Rattle.shortest.specs.Goals.{GoalAt, Asked}
use Rattle.shortest.specs.declared.Query.{Query}
use Rattle.walk.specs.Search.{modal_of, goal_of, query_of, Found, LineReady, LentLog}
use Rattle.walk.proofs.LineEdges.{each_lent, ready_of}
use Rattle.walk.proofs.Answers.{judged_long, judged_few, told_36, told_37, told_38, modal_ready, modal_outcome}
use native.Mathlib.Omega.{arith}
use Rattle.walk.proofs.lent.walk_judged.Goals as goal
use Rattle.walk.proofs.lent.walk_judged.Goals.{After-automaton_at-q, Else-not-is_modal}

-- what was read is what the table has
below : (t : Table) (xs : List ℕ) (k : ℕ) (u : Used) → Lent t xs → k < u.nodes → u ≡ lent_used xs → k < t.used.nodes
below t xs k u L l e = in_sheet t xs k u.nodes L l (ap (λ (u : Used). u.nodes) e)

line_read : (t : Table) (xs : List ℕ) (k : ℕ) (u : Used) → Lent t xs → k < u.nodes → u ≡ lent_used xs → lent_line xs k ≡ node_at t k
line_read t xs k u L l e = line_there t xs k u.nodes L l (ap (λ (u : Used). u.nodes) e)

line_is : (c : Else-not-is_modal) → (t : Table) → Lent t c.args.numbers.now → c.line_at-line.result ≡ node_at t c.args.node.0
line_is c t L = c.line_at-line.ensures ∙ line_read t _ c.args.node.0 _ L c.if-count-k.false c.used_in-count.ensures

modal : (c : Else-not-is_modal) → (t : Table) → Lent t c.args.numbers.now → modal_of (node_at t c.args.node.0) ≡ true
modal c t L = ap modal_of (sym (line_is c t L)) ∙ sym c.is_modal.ensures ∙ c.if-not-is_modal.false

-- the line's automaton is in order
ready : (c : Else-not-is_modal) → (t : Table) (log : List ℕ) → LentLog t c.args.numbers.now (paired c.args.words.now) log → LineReady t (node_at t c.args.node.0) (length (paired c.args.words.now)) c.args.entry.0
ready c t log W =
    modal_ready t log c.args.node.0 c.args.entry.0 W.lent.facts (below t _ _ _ W.lent c.if-count-k.false c.used_in-count.ensures) (modal c t W.lent) (length (paired c.args.words.now)) (judged_few t (paired c.args.words.now) log W.judged) (omega (arith, c.if-words-i.false, length-paired c.args.words.now))

m_in : (c : Else-not-is_modal) → c.line_at-line.result.a < automaton_limit
m_in c = let W = c.requires in omega (arith, ap (λ (x : NodeLine). x.a) (line_is c W.0 W.2.lent), (ready c W.0 W.1 W.2).automaton_fits)

q_is : (c : After-automaton_at-q) → (t : Table) → Lent t c.args.numbers.now → c.line_at-line.result.a < automaton_limit → c.automaton_at-q.result ≡ automaton_at t (node_at t c.args.node.0).a
q_is c t L b =
    c.automaton_at-q.ensures ∙ L.packed.automaton_is c.line_at-line.result.a b
    ∙ ap (λ (x : NodeLine). automaton_at t x.a) (c.line_at-line.ensures ∙ line_read t _ c.args.node.0 _ L c.if-count-k.false c.used_in-count.ensures)

-- what the search is asked for
asked_by : (t : Table) (k n : ℕ) (i : Entry) (q : Automaton) (x : NodeLine) → LineReady t (node_at t k) n i.0 → q ≡ automaton_at t (node_at t k).a → x ≡ node_at t k → Asked (query_of q x i) n
asked_by t k n i q x f e d =
    subst (λ (q : Automaton). Asked (query_of q x i) n) (sym e)
    (subst (λ (x : NodeLine). Asked (query_of (automaton_at t (node_at t k).a) x i) n) (sym d)
    (record { start_fits = f.start_fits; entry_fits = f.entry_fits; node_fits = f.node_fits }))

pub returns-then-count-k : goal.returns-then-count-k
returns-then-count-k c =
    let a = c.args in
    λ t log W. told_36 t (paired a.words.now) log W.judged a.node.0 a.entry.0 a.edges.now (omega (arith, c.if-count-k.true, ap (λ (u : Used). u.nodes) (c.used_in-count.ensures ∙ W.lent.packed.used_is)))

pub returns-then-words-i : goal.returns-then-words-i
returns-then-words-i c = let a = c.args in
    λ t log W. told_37 t (paired a.words.now) log W.judged a.node.0 a.entry.0 a.edges.now (below t _ a.node.0 c.used_in-count.result W.lent (omega arith) c.used_in-count.ensures) (omega (arith, c.if-words-i.true, length-paired a.words.now))

pub line_at-line-requires : goal.line_at-line-requires
line_at-line-requires c = (c.requires.2.lent.packed.size, (let L = c.requires.2.lent in omega (arith, below c.requires.0 _ c.args.node.0 _ L c.if-count-k.false c.used_in-count.ensures, L.facts.nodes≤)))

pub returns-then-not-is_modal : goal.returns-then-not-is_modal
returns-then-not-is_modal c = let a = c.args in
    λ t log W. told_38 t (paired a.words.now) log W.judged a.node.0 a.entry.0 a.edges.now (below t _ _ _ W.lent c.if-count-k.false c.used_in-count.ensures) (omega (arith, c.if-words-i.false, length-paired a.words.now))
    (ap modal_of (sym (c.line_at-line.ensures ∙ line_read t _ _ _ W.lent c.if-count-k.false c.used_in-count.ensures)) ∙ sym c.is_modal.ensures ∙ c.if-not-is_modal.true)

pub automaton_at-q-requires : goal.automaton_at-q-requires
automaton_at-q-requires c = (c.requires.2.lent.packed.size, m_in (goal.at.automaton_at-q-requires c).Else-not-is_modal)

pub chain_edges-requires : goal.chain_edges-requires
chain_edges-requires c =
    let t = c.requires.0 in
    let W = c.requires.2 in
    let k = c.args.node.0 in
    let f = ready (goal.at.chain_edges-requires c).Else-not-is_modal t c.requires.1 W in
    let asked =
    subst (λ (q : Automaton). (q.first + q.count ≤ edge_limit) × ((e : ℕ) → q.first ≤ e → e < q.first + q.count → EdgeFits 16 (lent_edge c.args.numbers.now e)))
    (sym (q_is (goal.at.chain_edges-requires c).After-automaton_at-q t W.lent (m_in (goal.at.chain_edges-requires c).Else-not-is_modal))) (f.few_edges, each_lent t (node_at t k) (paired c.args.words.now) c.args.entry.0 f c.args.numbers.now W.lent.packed) in
    record { numbers_len = (W.lent.packed.size, asked.0, omega arith, λ i l m. get_or-replicate {A = ℕ} 288 i none 0 m); by_index = asked.1 }

pub find-requires : goal.find-requires
find-requires c =
    let a = c.args in
    let t = c.requires.0 in
    let W = c.requires.2 in
    let line = node_at t a.node.0 in
    let r = c.chain_edges in
    let arcs = r.new.arcs in
    let f = ready (goal.at.find-requires c).Else-not-is_modal t c.requires.1 W in
    let both =
    subst (λ (y : Query). Ready arcs y.automaton (paired a.words.now) × Asked y (length (paired a.words.now))) (sym c.query_of.ensures) (
      subst (λ (q : Automaton). Chained t.edges q.first (q.first + q.count) arcs → Ready arcs q (paired a.words.now)) (sym (q_is (goal.at.find-requires c).After-automaton_at-q t W.lent (m_in (goal.at.find-requires c).Else-not-is_modal)))
          (λ made. ready_of t line (paired a.words.now) a.entry.0 f arcs made (omega (arith, r.auto.arcs))) (r.ensures t W.lent.packed),
      asked_by t a.node.0 _ a.entry _ _ f (q_is (goal.at.find-requires c).After-automaton_at-q t W.lent (m_in (goal.at.find-requires c).Else-not-is_modal)) (line_is (goal.at.find-requires c).Else-not-is_modal t W.lent),
    ) in
    record { ready = both.0; asked = both.1 }

pub returns : goal.returns
returns c =
    let a = c.args in
    let r = c.chain_edges in
    let arcs = r.new.arcs in
    let answer = c.find.result in
    let after = c.find.new.out in
    λ t log W.
    let k = a.node.0 in
    let L = W.lent in
    let f = ready (goal.at.returns c).Else-not-is_modal t log W in
    let line = node_at t k in
    let query =
    subst
    (λ (y : Query). Found (graph_of arcs y.automaton (paired a.words.now)) (GoalAt (paired a.words.now) y.automaton y.goal) (start_of y.automaton y.entry.0) a.edges.now after answer)
    c.query_of.ensures c.find.ensures in
    let made =
    subst
    (λ (q : Automaton). Chained t.edges q.first (q.first + q.count) arcs × Found (graph_of arcs q (paired a.words.now)) (GoalAt (paired a.words.now) q (goal_of line)) (start_of q a.entry.0) a.edges.now after answer)
    (q_is (goal.at.returns c).After-automaton_at-q t L (m_in (goal.at.returns c).Else-not-is_modal)) (
      r.ensures t L.packed,
      subst (λ (x : NodeLine). Found (graph_of arcs c.automaton_at-q.result (paired a.words.now)) (GoalAt (paired a.words.now) c.automaton_at-q.result (goal_of x)) (start_of c.automaton_at-q.result a.entry.0) a.edges.now after answer)
          (line_is (goal.at.returns c).Else-not-is_modal t L) query,
    ) in
    modal_outcome t log k a.entry.0 L.facts (below t _ _ _ L c.if-count-k.false c.used_in-count.ensures) (modal (goal.at.returns c).Else-not-is_modal t L) (paired a.words.now) W.judged
    (let l = judged_long t (paired a.words.now) log W.judged in omega (arith, c.if-words-i.false, length-paired a.words.now)) a.edges.now after answer
    (record {
      arcs = arcs;
      chained = made.0;
      ready = ready_of t line (paired a.words.now) a.entry.0 f arcs made.0 (omega (arith, r.auto.arcs));
      found = made.1;
    })
