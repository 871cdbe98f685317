-- Strings: what stands between their quotes, and where one ends.
use Rattle.std.specs.Prelude.{ℕ, zero, suc, ◌+◌, ◌-◌, ◌≡◌, Bool, true, false, cond, List, [], ◌∷◌, ◌++◌, eqb, length, take, drop}

-- the quote
abbrev pub quote : ℕ
quote = 34

abbrev pub backslash : ℕ
backslash = 92

abbrev pub newline : ℕ
newline = 10

-- ---- in plain words

-- between the quotes stand bytes that are no quote, no backslash and no newline, and `\"`
pub data Quotable : List ℕ → Type 0 where
  nothing : Quotable []
  byte : {b : ℕ} {rest : List ℕ} → (b ≡ quote → ⊥) → (b ≡ backslash → ⊥) → (b ≡ newline → ⊥) → Quotable rest → Quotable (b ∷ rest)
  escape : {rest : List ℕ} → Quotable rest → Quotable (backslash ∷ quote ∷ rest)

-- between two quotes
abbrev pub quoted : List ℕ → List ℕ
quoted s = quote ∷ s ++ quote ∷ []

-- a string, and what stands between its quotes
pub record IsString (bytes : List ℕ) : Type 0 where
  pub inner : List ℕ
  pub in_quotes : bytes ≡ quoted inner
  pub quotable : Quotable inner

-- the bytes without the first and the last
unfoldable pub between : List ℕ → List ℕ
between bytes = take (length bytes - 2) (drop 1 bytes)

-- ---- where one ends

-- k more, where there are some
unfoldable pub longer : ℕ → ℕ → ℕ
longer k zero = 0
longer k (suc n) = k + suc n

-- how many bytes end an open string, its closing quote among them; 0: they end none. The first is behind a backslash, or not
unfoldable pub closing : Bool → List ℕ → ℕ
closing e [] = 0
closing true (b ∷ rest) = cond (eqb b quote) (longer 1 (closing false rest)) 0
closing false (b ∷ rest) = cond (eqb b quote) 1 (cond (eqb b newline) 0 (longer 1 (closing (eqb b backslash) rest)))
