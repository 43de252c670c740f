-- Sizes (docs/RULES.md, 1).
use Rattle.std.specs.Prelude.{ℕ}

-- a message has at most so many bytes
abbrev pub largest_message : ℕ
largest_message = 32768

-- each payment has so many numbers of the table that is lent, and that table at least so many in all
abbrev pub numbers_per_payment : ℕ
numbers_per_payment = 20

abbrev pub least_table : ℕ
least_table = 1280

-- a message has at most so many blocks, and over all of them so many payments
abbrev pub most_blocks : ℕ
most_blocks = 16

abbrev pub most_payments : ℕ
most_payments = 64
