-- `to_profile` meets its contract: the table is packed, and asked. Assumes nothing.
use Rattle.profile.proofs.to_profile.Goals as goal

pub returns : goal.returns
returns c = c.to_profile_lent.ensures c.args.table c.pack.ensures
