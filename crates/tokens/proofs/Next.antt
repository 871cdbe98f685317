-- Laws of `next_token`: where a token stands, and that it is the longest match there.
use Prim.Native.Nat.{ℕ, zero, suc, ◌+◌, ◌-◌, ◌≤◌, ◌<◌}
use native.Mathlib.Omega.{arith}
use mathlib.Core.Path.{◌≡◌, refl, sym, ap, ◌∙◌}
use mathlib.Core.Bool.{Bool, true, false, cond, true≢false}
use mathlib.Core.Logic.{◌⊎◌, inl, inr}
use mathlib.Core.List.{List, []}
use lib.Dec.{eqb, ltb}
use lib.ListN.{length, get_or, take, drop, length-drop}
use borrow.Author.Tests.{ltb-true, ltb-false}
use Rattle.lexis.specs.declared.class.Class.{Class}
use Rattle.lexis.specs.declared.class.Class.TheVariants.{Lower, Upper, Digit, Underscore, Other}
use Rattle.lexis.specs.declared.kind.Kind.{Kind}
use Rattle.lexis.specs.declared.kind.Kind.TheVariants.{End, Stray, String}
use Rattle.texts.specs.declared.place.Place.{Place}
use Rattle.tokens.specs.declared.Token.{Token}
use Rattle.lexis.specs.Class.{class_of}
use Rattle.lexis.specs.Strings.{quote, closing}
use Rattle.tokens.specs.Gap.{gap}
use Rattle.lexis.specs.Kind.{is_end, is_stray}
use Rattle.lexis.specs.Spelling.{single_kind, pair_kind, name_kind, kind_of}
use Rattle.tokens.specs.Spells.{Spells}
use Rattle.tokens.specs.Longest.{Longest, Found}
use Rattle.texts.specs.Place.{place_from, with_len}
use Rattle.tokens.specs.Token.{standing, placed, mark_at, string_at, other_at, start_at, token_at, next_token}
use Rattle.texts.specs.Parts.{part}
use Rattle.texts.proofs.Prefix.{drop_at}
use Rattle.tokens.proofs.Starts.{end_at, starts_at}
use Rattle.tokens.proofs.Spelled.{spells, kind_of_spelled}
use Rattle.tokens.proofs.Between.{token_no_gap}
use Rattle.tokens.proofs.LongestMatch.{start_longest, longest_unique}

-- ---- the end is no byte's kind

either : (t : Bool) (x y : Kind) → is_end x ≡ false → is_end y ≡ false → is_end (cond t x y) ≡ false
either true x y h k = h
either false x y h k = k

single_not_end : (b : ℕ) → is_end (single_kind b) ≡ false
unfolding single_kind
single_not_end b = search either depth 20

pair_not_end : (b c : ℕ) → is_end (pair_kind b c) ≡ false
unfolding pair_kind
pair_not_end b c = search either depth 20

mark_not_end : (at : Place) (b c : ℕ) → is_end (mark_at at b c).kind ≡ false
unfolding mark_at
mark_not_end at b c = go (is_stray (pair_kind b c))
  where
    go : (t : Bool) → is_end (cond t (standing (single_kind b) at 1) (standing (pair_kind b c) at 2)).kind ≡ false
    go true = single_not_end b
    go false = pair_not_end b c

string_not_end : (at : Place) (end : ℕ) → is_end (string_at at end).kind ≡ false
unfolding string_at
string_not_end at end = go (eqb end 0)
  where
    go : (t : Bool) → is_end (cond t (standing Stray at 1) (standing String at (suc end))).kind ≡ false
    go true = refl
    go false = refl

name_not_end : (len a b c : ℕ) → is_end (name_kind len a b c) ≡ false
unfolding name_kind
name_not_end len a b c = search either

other_not_end : (at : Place) (b : ℕ) (rest : List ℕ) → is_end (other_at at b rest).kind ≡ false
unfolding other_at
other_not_end at b rest = go (eqb b quote)
  where
    go : (t : Bool) → is_end (cond t (string_at at (closing false rest)) (mark_at at b (get_or rest 0 0))).kind ≡ false
    go true = string_not_end at (closing false rest)
    go false = mark_not_end at b (get_or rest 0 0)

start_not_end : (at : Place) (class : Class) (b : ℕ) (rest : List ℕ) → is_end (start_at at class b rest).kind ≡ false
start_not_end at Lower b rest = name_not_end _ _ _ _
start_not_end at Upper b rest = refl
start_not_end at Digit b rest = refl
start_not_end at Underscore b rest = refl
start_not_end at Other b rest = other_not_end at b rest

mark_place : (at : Place) (b c : ℕ) → (mark_at at b c).place ≡ with_len at (mark_at at b c).place.len
unfolding mark_at
mark_place at b c = go (is_stray (pair_kind b c))
  where
    go : (t : Bool) → (cond t (standing (single_kind b) at 1) (standing (pair_kind b c) at 2)).place ≡ with_len at (cond t (standing (single_kind b) at 1) (standing (pair_kind b c) at 2)).place.len
    go true = refl
    go false = refl

string_place : (at : Place) (end : ℕ) → (string_at at end).place ≡ with_len at (string_at at end).place.len
unfolding string_at
string_place at end = go (eqb end 0)
  where
    go : (t : Bool) → (cond t (standing Stray at 1) (standing String at (suc end))).place ≡ with_len at (cond t (standing Stray at 1) (standing String at (suc end))).place.len
    go true = refl
    go false = refl

other_place : (at : Place) (b : ℕ) (rest : List ℕ) → (other_at at b rest).place ≡ with_len at (other_at at b rest).place.len
unfolding other_at
other_place at b rest = go (eqb b quote)
  where
    go : (t : Bool) → (cond t (string_at at (closing false rest)) (mark_at at b (get_or rest 0 0))).place ≡ with_len at (cond t (string_at at (closing false rest)) (mark_at at b (get_or rest 0 0))).place.len
    go true = string_place at (closing false rest)
    go false = mark_place at b (get_or rest 0 0)

start_place : (at : Place) (class : Class) (b : ℕ) (rest : List ℕ) → (start_at at class b rest).place ≡ with_len at (start_at at class b rest).place.len
start_place at Lower b rest = refl
start_place at Upper b rest = refl
start_place at Digit b rest = refl
start_place at Underscore b rest = refl
start_place at Other b rest = other_place at b rest

-- ---- the token at a place

pub found : (text : List ℕ) (at : ℕ) → at < length text → Found text at (token_at text at)
found text at h =
    rw (starts_at text at h)
    (record {
      here = h;
      place = start_place here (class_of b) b rest;
      real = start_not_end here (class_of b) b rest;
      longest = rw (drop_at text at h) (start_longest here b rest (class_of b) refl);
    })
  where
    here : Place
    here = place_from text at 0

    b : ℕ
    b = get_or text at 0

    rest : List ℕ
    rest = drop (at + 1) text

found_or_end : (text : List ℕ) (at : ℕ) → Found text at (token_at text at) ⊎ ((length text ≤ at) × (token_at text at ≡ placed text End (length text) 0))
found_or_end text at = go (ltb at (length text)) refl
  where
    go : (t : Bool) → ltb at (length text) ≡ t → Found text at (token_at text at) ⊎ ((length text ≤ at) × (token_at text at ≡ placed text End (length text) 0))
    go true e = inl (found text at (ltb-true at (length text) e))
    go false e = let h = ltb-false at (length text) e in inr (h, end_at text at h)

by_parts : (text : List ℕ) (t : Token) {kind : Kind} {start len : ℕ} → t.kind ≡ kind → t.place ≡ place_from text start t.place.len → t.place.len ≡ len → t ≡ placed text kind start len
by_parts text t {kind} {start} a b c = λ i. record { kind = a i; place = (b ∙ ap (place_from text start) c) i }

found_start : {text : List ℕ} {at : ℕ} {t : Token} → Found text at t → t.place.start ≡ at
found_start f = ap (λ (p : Place). p.start) f.place

found_inside : (text : List ℕ) (at : ℕ) (t : Token) → Found text at t → t.place.start + t.place.len ≤ length text
found_inside text at t f = let r : t.place.len ≤ length text - at = rw (← (length-drop at text)) f.longest.inside in omega (arith, f.here, found_start f)

nothing_stray : kind_of [] ≡ Stray
unfolding kind_of
nothing_stray = refl

stray_spells : (kind : Kind) (bytes : List ℕ) → kind_of bytes ≡ Stray → Spells kind bytes → ⊥
stray_spells kind bytes e s = let q : kind ≡ Stray = sym (kind_of_spelled kind bytes s) ∙ e in rw q at s

-- ---- the next token

module _ (program : Bool) (text : List ℕ) (at : ℕ) where
  abbrev next : Token
  next = next_token program text at

  -- a token lies inside the text
  pub inside : next.place.start + next.place.len ≤ length text
  unfolding next_token
  inside = elim (found_or_end text (at + gap program (drop at text))) [ inl f ↦ found_inside _ _ _ f | inr e ↦ rw e.1 (omega arith) ]

  -- the end stands at the text's length
  pub end_place : is_end next.kind ≡ true → next ≡ placed text End (length text) 0
  unfolding next_token
  end_place e = elim (found_or_end text (at + gap program (drop at text))) [ inl f ↦ absurd (true≢false (sym e ∙ f.real)) | inr q ↦ q.1 ]

  -- any other token is the longest match behind the gap
  pub next_found : is_end next.kind ≡ false → Found text (at + gap program (drop at text)) next
  unfolding next_token
  next_found e = elim (found_or_end text (at + gap program (drop at text))) [ inl f ↦ f | inr q ↦ absurd (true≢false (sym (ap (λ (t : Token). is_end t.kind) q.1) ∙ e)) ]

  -- a token that is not the end has a byte
  pub not_empty : is_end next.kind ≡ false → 1 ≤ next.place.len
  not_empty e = (next_found e).longest.not_empty

  -- its kind is what its bytes spell
  pub next_kind : is_end next.kind ≡ false → kind_of (part text next.place) ≡ next.kind
  next_kind e = rw (found_start (next_found e)) (next_found e).longest.spelled

  pub next_spells : is_end next.kind ≡ false → is_stray next.kind ≡ false → Spells next.kind (part text next.place)
  next_spells e h =
      let k = next_kind e in
      rw k at (spells (part text next.place) (ap is_stray k ∙ h))

  -- and no more bytes than its own are a token of any kind
  pub next_longest : is_end next.kind ≡ false → (n : ℕ) → next.place.len < n → n ≤ length (drop next.place.start text) → (kind : Kind) → Spells kind (take n (drop next.place.start text)) → ⊥
  next_longest e n l h kind s = stray_spells kind _ (longer n l h) s
    where
      longer : (m : ℕ) → next.place.len < m → m ≤ length (drop next.place.start text) → kind_of (take m (drop next.place.start text)) ≡ Stray
      longer = rw (found_start (next_found e)) (next_found e).longest.longest

  -- where a byte is stray no bytes are a token
  pub stray_no_token : next.kind ≡ Stray → (n : ℕ) → n ≤ length (drop next.place.start text) → (kind : Kind) → Spells kind (take n (drop next.place.start text)) → ⊥
  stray_no_token q n h kind s = go (ltb next.place.len n) refl
    where
      e : is_end next.kind ≡ false
      e = ap is_end q

      one : next.place.len ≡ 1
      one = (next_found e).longest.stray q

      short : (m : ℕ) → m ≤ 1 → kind_of (take m (drop next.place.start text)) ≡ Stray
      short zero l = nothing_stray
      short (suc zero) l = let k : kind_of (take 1 (drop next.place.start text)) ≡ next.kind = rw one at (next_kind e) in k ∙ q
      short (suc (suc m)) l = absurd (let z : ⊥ = omega arith in z)

      go : (t : Bool) → ltb next.place.len n ≡ t → ⊥
      go true l = next_longest e n (ltb-true next.place.len n l) h kind s
      go false l = stray_spells kind _ (short n (omega (arith, one, ltb-false next.place.len n l))) s

  -- reading goes forward
  pub forward : at ≤ length text → at ≤ next.place.start
  forward h = go (is_end next.kind) refl
    where
      go : (t : Bool) → is_end next.kind ≡ t → at ≤ next.place.start
      go true e = rw (end_place e) h
      go false e = omega (arith, found_start (next_found e))

  pub onward : is_end next.kind ≡ false → at < next.place.start + next.place.len
  onward e = omega (arith, found_start (next_found e), not_empty e)

  -- the longest match behind the gap is the next token
  pub next_is : (start : ℕ) (kind : Kind) (len : ℕ) → start ≡ at + gap program (drop at text) → Longest (drop start text) kind len → next ≡ placed text kind start len
  unfolding next_token
  next_is start kind len q l = rw (← q) (elim (found_or_end text start) [ inl f ↦ same f | inr e ↦ absurd (past e.0) ])
    where
      same : Found text start (token_at text start) → token_at text start ≡ placed text kind start len
      same f =
          let u = longest_unique (drop start text) _ _ _ _ f.longest l in
          by_parts text (token_at text start) u.0 f.place u.1

      past : length text ≤ start → ⊥
      past h = omega (arith, l.not_empty, l.inside, length-drop start text)

  -- so a token that stands at the place is the next
  pub next_here : (kind : Kind) (len : ℕ) → is_stray kind ≡ false → Longest (drop at text) kind len → next ≡ placed text kind at len
  next_here kind len h l =
      let z : gap program (drop at text) ≡ 0 = token_no_gap program (drop at text) len (ap is_stray l.spelled ∙ h) in
      next_is at kind len (omega arith) l
