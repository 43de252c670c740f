use lib.ListN.{length}
use Rattle.leaf_remainders.proofs.+remainder.Given as goal

abbrev pub decreases-remainder : goal.decreases-remainder
decreases-remainder l = length l.unread.now
