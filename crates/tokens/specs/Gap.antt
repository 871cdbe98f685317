-- What stands between two tokens: blanks and, in a program, comments.
use Rattle.std.specs.Prelude.{ℕ, suc, Bool, true, cond, not, ◌&&◌, List, [], ◌∷◌, eqb, get_or}
use Rattle.lexis.specs.Run.{is_blank}

-- the text starts with a comment: a `%`, and no `*` after it
unfoldable pub starts_comment : List ℕ → Bool
starts_comment text = eqb (get_or text 0 0) 37 && not (eqb (get_or text 1 0) 42)

unfoldable mutual
  -- how many bytes stand before the first token of a program, or of a facts line
  pub gap : Bool → List ℕ → ℕ
  gap program [] = 0
  gap program (b ∷ rest) =
      cond (is_blank program b) (suc (gap program rest))
      (cond (program && starts_comment (b ∷ rest)) (suc (comment rest))
      0)

  -- the same in a comment, which runs to a newline or the end of the text
  pub comment : List ℕ → ℕ
  comment [] = 0
  comment (b ∷ rest) = suc (cond (eqb b 10) (gap true rest) (comment rest))
