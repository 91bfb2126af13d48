-- `is_in_profile` meets its contract: the table is packed, and asked. Assumes nothing.
use Rattle.profile.proofs.is_in_profile.Goals as goal

pub returns : goal.returns
returns c = c.is_in_profile_lent.ensures c.args.table c.pack.ensures
