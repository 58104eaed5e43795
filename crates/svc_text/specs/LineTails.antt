-- What stands in a record's line behind its keyword.
use Rattle.std.specs.Prelude.{ℕ, List, [], ◌∷◌, ◌++◌, decimal}
use Rattle.svc_text.specs.declared.line_tails.Numbers.{Numbers}
use Rattle.svc_text.specs.declared.line_tails.Numbers.TheVariants as numbers
use Rattle.svc_text.specs.declared.line_tails.LineTail.{LineTail}
use Rattle.svc_text.specs.declared.line_tails.LineTail.TheVariants as tails

-- numbers with a space before each, and the end of the line
abbrev pub numbers_text : Numbers → List ℕ
numbers_text (numbers.One n) = 32 ∷ decimal n ++ 10 ∷ []
numbers_text (numbers.Two m n) = 32 ∷ decimal m ++ 32 ∷ decimal n ++ 10 ∷ []
numbers_text (numbers.Three k m n) = 32 ∷ decimal k ++ 32 ∷ decimal m ++ 32 ∷ decimal n ++ 10 ∷ []

-- the text behind the keyword, to the end of the line
abbrev pub tail_text : LineTail → List ℕ
tail_text tails.Nothing = 10 ∷ []
tail_text (tails.Word word) = 32 ∷ word.now ++ 10 ∷ []
tail_text (tails.Numbers ns) = numbers_text ns
tail_text (tails.WordNumber word n) = 32 ∷ word.now ++ 32 ∷ decimal n ++ 10 ∷ []
tail_text (tails.NumberEnd n end) = 32 ∷ decimal n ++ end.now
