use lib.ListN.{length}
use Rattle.leaf_accounts.proofs.+remainder.Given as goal

abbrev pub decreases-remainder : goal.decreases-remainder
decreases-remainder l = length l.s.now
