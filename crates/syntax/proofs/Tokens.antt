-- The token at a place, by its number: it heads the tokens from there on, or the text ends.
use mathlib.Core.Path.{◌≡◌, refl, sym as inv, ap, ◌∙◌}
use mathlib.Core.Bool.{Bool, true, false, not}
use mathlib.Core.List.{[], ◌∷◌, map}
use Prim.Native.Nat.{ℕ, ◌+◌, ◌≤◌, ◌<◌}
use native.Mathlib.Omega.{arith}
use lib.ListN.{length, length-take, length-drop}
use borrow.Author.Tests.{eqb-true, eq-eqb, ne_eqb}
use Rattle.lexis.specs.declared.kind.Kind.{Kind}
use Rattle.lexis.specs.declared.kind.Kind.TheVariants.{Name, Not, Variable, Anonymous, Number, Open, Close, Comma, Dot, If, Minus, Plus, Times, Equal, Unequal, AlsoUnequal, Less, AtMost, Greater, AtLeast, End, Stray, String, Bar}
use Rattle.tokens.specs.declared.Token.{Token as TextToken}
use Rattle.lexis.specs.Kind.{kind_number, is_end}
use Rattle.tokens.specs.Token.{next_token}
use Rattle.texts.specs.Parts.{part}
use Rattle.lexis.specs.Spelling.{kind_of}
use Rattle.lexis.proofs.KindNumber.{kind_at, kind_at_number, at_most_bar}
use Rattle.tokens.proofs.Next.{inside, end_place, next_kind, onward}
use Rattle.texts.proofs.Counting.{past_countable as countable_past}
use Rattle.tokens.proofs.OneLine.{next_stands, past_stands}
use Rattle.tokens.proofs.TokenList.{tokens_end, tokens_more}
use Rattle.texts.specs.Place.{Stands, past, countless, Countable}
use Rattle.meaning.specs.Rules.{Bytes}
use Rattle.grammar.specs.Tokens.{Token}
use Rattle.grammar.specs.Moves.{symbol_number, comparison_number, sign_number, token_number}
use Rattle.syntax.specs.declared.token.TokenRead.{TokenRead}
use Rattle.syntax.specs.Text.{token_of, placed_token, placed_from, end_of, token_read, next_of}

-- the grammar's token of a kind's number
abbrev pub token_by : ℕ → Bytes → Token
token_by k b = token_of (kind_at k) b

-- its number is that of the kind
of_kind : (kind : Kind) (b : Bytes) → (kind_number kind ≡ 20 → ⊥) → token_number (token_of kind b) ≡ kind_number kind
unfolding token_of token_number symbol_number sign_number comparison_number
of_kind Name b h = refl
of_kind Not b h = refl
of_kind Variable b h = refl
of_kind Anonymous b h = refl
of_kind Number b h = refl
of_kind Open b h = refl
of_kind Close b h = refl
of_kind Comma b h = refl
of_kind Dot b h = refl
of_kind If b h = refl
of_kind Minus b h = refl
of_kind Plus b h = refl
of_kind Times b h = refl
of_kind Equal b h = refl
of_kind Unequal b h = refl
of_kind AlsoUnequal b h = refl
of_kind Less b h = refl
of_kind AtMost b h = refl
of_kind Greater b h = refl
of_kind AtLeast b h = refl
of_kind End b h = absurd (h refl)
of_kind Stray b h = refl
of_kind String b h = refl
of_kind Bar b h = refl

module _ (ground : Bool) (text : Bytes) (at : ℕ) (t : TokenRead) (et : t ≡ token_read ground text at) where
  abbrev next : TextToken
  next = next_token (not ground) text at

  -- it lies inside the text
  pub within : next_of t ≤ length text
  within = rw et (inside (not ground) text at)

  pub place_within : t.place.start + t.place.len ≤ length text
  place_within = rw et (inside (not ground) text at)

  -- no kind has a greater number than `|`
  pub kind_at_most : t.kind ≤ 23
  kind_at_most = rw et (at_most_bar next.kind)

  -- and stands there by its line and column
  pub place_stands : Stands text t.place
  place_stands = rw et (next_stands (not ground) text at)

  pub past_countable : length text < countless → Countable t.place (next_of t)
  past_countable f = countable_past text t.place place_stands place_within f

  -- what stands behind it stands on its line: a newline is a token on a facts line alone, and is stray there
  pub past_here : (t.kind ≡ 21 → ground ≡ false) → Stands text (past t.place)
  past_here h = rw et (past_stands (not ground) text at (λ q. ap not (h (rw et (eqb-true (kind_number next.kind) 21 q)))))

  -- and behind the place from which it is looked for
  pub forward : (t.kind ≡ 20 → ⊥) → at < next_of t
  forward h = rw et (onward (not ground) text at (ne_eqb (kind_number next.kind) 20 (λ q. h (rw et q))))

  pub part_length : length (part text t.place) ≡ t.place.len
  part_length = let w = place_within in simp (length-take, length-drop) (omega arith)

  -- the grammar's token
  abbrev pub token_here : Token
  token_here = token_by t.kind (part text t.place)

  token_same : token_of next.kind (part text next.place) ≡ token_here
  token_same = rw (et, kind_at_number next.kind)

  pub number_here : (t.kind ≡ 20 → ⊥) → token_number token_here ≡ t.kind
  number_here h = ap token_number (inv token_same) ∙ of_kind next.kind _ (λ q. h (rw et q)) ∙ rw et

  -- the token heads what follows
  pub placed_more : (t.kind ≡ 20 → ⊥) → placed_from ground text at ≡ record { token = token_here; place = t.place } ∷ placed_from ground text (next_of t)
  placed_more h =
      let e : is_end next.kind ≡ false = ne_eqb (kind_number next.kind) 20 (λ q. h (rw et q)) in
      ap (map (placed_token text)) (tokens_more (not ground) text at e) ∙ rw (token_same, et)

  pub placed_end : t.kind ≡ 20 → placed_from ground text at ≡ []
  placed_end h = let e : is_end next.kind ≡ true = eq-eqb (kind_number next.kind) 20 (rw et at h) in ap (map (placed_token text)) (tokens_end (not ground) text at e)

  pub end_here : t.kind ≡ 20 → end_of text ≡ t.place
  end_here h =
      let e : is_end next.kind ≡ true = eq-eqb (kind_number next.kind) 20 (rw et at h) in
      rw et (inv (ap (λ (u : TextToken). u.place) (end_place (not ground) text at e)))

  -- its bytes are of its kind
  pub spelled_here : (t.kind ≡ 20 → ⊥) → kind_of (part text t.place) ≡ kind_at t.kind
  spelled_here h =
      let e : is_end next.kind ≡ false = ne_eqb (kind_number next.kind) 20 (λ q. h (rw et q)) in
      rw (et, kind_at_number next.kind) (next_kind (not ground) text at e)
