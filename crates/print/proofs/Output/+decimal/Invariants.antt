-- The measure of the calls of `decimal` to itself is the number. Assumes nothing.
use Rattle.print.proofs.Output.+decimal.Given as goal

abbrev pub decreases-decimal : goal.decreases-decimal
decreases-decimal l = l.n
