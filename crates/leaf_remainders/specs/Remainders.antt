-- What an account is checked by (docs/RULES.md, 4, row 28): the rule of 97 of ISO 13616, which is MOD 97-10 of ISO 7064.
use Rattle.std.specs.Prelude.{ℕ, ◌%◌, List}
use Rattle.paper.specs.Values.{read_after}

-- The number that these characters spell, modulo 97: a digit is read as itself, A to Z as 10 to 35.
unfoldable pub modulo_97 : List ℕ → ℕ
modulo_97 w = read_after 0 w % 97
