-- Longest match: what it means that a token is the longest that a text starts with.
use Rattle.std.specs.Prelude.{ℕ, ◌≤◌, ◌<◌, ◌≡◌, false, List, length, take, drop}
use Rattle.lexis.specs.declared.kind.Kind.{Kind}
use Rattle.lexis.specs.declared.kind.Kind.TheVariants.{Stray}
use Rattle.tokens.specs.declared.Token.{Token}
use Rattle.lexis.specs.Kind.{is_end}
use Rattle.lexis.specs.Spelling.{kind_of}
use Rattle.texts.specs.Place.{place_from}

-- the first `len` bytes are a token of this kind, and no more bytes are a token of any kind; where no bytes are one, the first is stray
pub record Longest (text : List ℕ) (kind : Kind) (len : ℕ) : Type 0 where
  pub not_empty : 1 ≤ len
  pub inside : len ≤ length text
  pub spelled : kind_of (take len text) ≡ kind
  pub longest : (n : ℕ) → len < n → n ≤ length text → kind_of (take n text) ≡ Stray
  pub stray : kind ≡ Stray → len ≡ 1

-- a byte stands there, and t is the longest match there
pub record Found (text : List ℕ) (at : ℕ) (t : Token) : Type 0 where
  pub here : at < length text
  pub place : t.place ≡ place_from text at t.place.len
  pub real : is_end t.kind ≡ false
  pub longest : Longest (drop at text) t.kind t.place.len
