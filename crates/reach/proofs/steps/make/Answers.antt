-- `make` meets its contract: cleared, the edges added, the steps that stay joined. Assumes nothing.
use Prim.Native.Nat.{◌+◌}
use Rattle.aldlf.specs.Constants.{state_limit}
use Rattle.reach.proofs.Made.{apart_then, apart_wide, columns_made}
use Rattle.reach.specs.Marks.{at, paired}
use native.Mathlib.Omega.{arith}
use Rattle.reach.proofs.steps.make.Goals as goal

pub add_edges-requires : goal.add_edges-requires
add_edges-requires c = let Z = c.clear.ensures in record { edges_fit = c.requires.edges_fit; i_in_bounds = (c.requires.i_in_bounds.0, omega (arith, c.requires.i_in_bounds.1, Z.apart.same)); by_index = Z.by_index }

pub returns : goal.returns
returns c =
    let J = c.join.ensures in
    let A = c.add_edges.ensures in
    let Z = c.clear.ensures in
    let p = c.args.place in record { apart = apart_then p (p + 48) c.args.steps.now _ _ (apart_then p (p + 48) c.args.steps.now _ _ Z.apart A.apart) (apart_wide p (p + state_limit) (p + 48) _ _ (omega arith) J.apart); columns = columns_made c.args.edges.now c.requires.edges_fit (at (paired c.args.words.now) c.args.i) _ _ p A.held J }
