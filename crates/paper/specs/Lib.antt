-- The rules (docs/RULES.md) as definitions, in their words and their order. What is proved is proved about these; what each public function promises is said by its
-- contract (docs/PROMISES.md lists them).
--
-- How to read them. `f : A → B` says that f takes an A and gives a B, and the lines below it what it gives, case by case; `f a b` is what f gives for a and b, and
-- `λ x. e` is the function that gives e for x. `unfoldable`, `abbrev` and `pub` matter to the prover alone, and so do names in braces behind a colon.
-- A text is a list of bytes. `[]` is the empty list, `x ∷ l` is x and then l, `l ++ m` is l and then m, `Memᴰ x l` says that x is in l. `take n l` are the first n
-- of l, `drop n l` the others; `get_or l n d` is the one at place n, from 0, or d where there is none. `record { part = x }` is a record whose part is x, and `r.part` is
-- that part of r; a record whose parts are statements says that all of them hold. A `data` lists all the ways in which something can be. What stands under
-- `module _ (x : A) where` takes an x before its other arguments, which inside is left out. `some x` is x, `none` is nothing. `elim x [ a ↦ p | b ↦ q ]` is p where x is a, and q
-- where it is b. `eqb`, `leb` and `ltb` test whether one number is equal to another, at most the other, below it; `≡`, `≤` and `<` state it. `P × Q` is P and Q, `P ⊎ Q` is P or Q,
-- `P → Q` is Q wherever P, `⊥` holds never. `(x : A) × P` says that there is an x of which P holds, `(x : A) → P` that P holds of every x.
pub mod Sizes
pub mod Bytes
pub mod Form
pub mod Computed
pub mod Rows
pub mod Values
pub mod Payments
pub mod Accepted
pub mod Refusals
pub mod Table
pub mod Fields
pub mod Regrouping
pub mod Order
pub mod Host
pub mod Answers
