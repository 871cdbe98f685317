-- Laws of `closing`: where an open string ends, what it is then, and what a shorter piece of the text says of it.
use Prim.Native.Nat.{ℕ, zero, suc, ◌+◌, ◌-◌, ◌≤◌, ◌<◌}
use native.Mathlib.Omega.{arith}
use mathlib.Core.Path.{◌≡◌, refl, sym, ap, ◌∙◌}
use mathlib.Core.Bool.{Bool, true, false, cond}
use mathlib.Core.List.{List, [], ◌∷◌, ◌++◌}
use lib.Dec.{eqb, leb}
use lib.ListN.{length, get_or, take, drop, length-append, length-take, length-drop, drop_of_length-le}
use lib.Seq.{length-take-le, take-append_seam}
use borrow.Author.Tests.{eqb-true, eqb-false, eq-eqb, ne_eqb, leb-true, leb-false, le-leb, lt-leb}
use Rattle.texts.specs.Prefix.{in_line, every}
use Rattle.lexis.specs.declared.kind.Kind.TheVariants.{Stray, String}
use Rattle.lexis.specs.Spelling.{string_kind}
use Rattle.lexis.specs.Strings.{quote, backslash, newline, Quotable, nothing, byte, escape, quoted, IsString, between, longer, closing}
use Rattle.texts.proofs.Prefix.{drop_at}

-- ---- some more

longer_some : (k n : ℕ) → 1 ≤ n → longer k n ≡ k + n
unfolding longer
longer_some k zero h = absurd (let z : ⊥ = omega arith in z)
longer_some k (suc n) h = refl

longer_zero : (n : ℕ) → longer 0 n ≡ n
unfolding longer
longer_zero zero = refl
longer_zero (suc n) = omega arith

longer_twice : (k n : ℕ) → longer k (longer 1 n) ≡ longer (k + 1) n
unfolding longer
longer_twice k zero = refl
longer_twice k (suc n) = longer_some k (1 + suc n) (omega arith) ∙ omega arith

longer_within : (n m : ℕ) → n ≤ m → longer 1 n ≤ suc m
unfolding longer
longer_within zero m h = omega arith
longer_within (suc n) m h = omega arith

-- a bound on the rest is one on the whole
longer_cut : (n m : ℕ) → longer 1 (cond (leb n m) n 0) ≡ cond (leb (longer 1 n) (suc m)) (longer 1 n) 0
unfolding longer
longer_cut zero m = rw (le-leb 0 m (omega arith), le-leb 0 (suc m) (omega arith))
longer_cut (suc n) m = go (leb (suc n) m) refl
  where
    go : (t : Bool) → leb (suc n) m ≡ t → longer 1 (cond t (suc n) 0) ≡ cond (leb (1 + suc n) (suc m)) (1 + suc n) 0
    go true e = rw (le-leb (1 + suc n) (suc m) (omega (arith, leb-true (suc n) m e)))
    go false e = rw (lt-leb (1 + suc n) (suc m) (omega (arith, leb-false (suc n) m e)))

-- ---- by the byte at a place

module _ (text : List ℕ) (at : ℕ) where
  pub closing_end : (e : Bool) → length text ≤ at → closing e (drop at text) ≡ 0
  unfolding closing
  closing_end e h = rw (drop_of_length-le text h)

  module _ (h : at < length text) where
    -- behind a backslash stands a quote, and reading goes on, or nothing ends
    pub escaped_on : get_or text at 0 ≡ quote → closing true (drop at text) ≡ longer 1 (closing false (drop (at + 1) text))
    unfolding closing
    escaped_on q = rw (drop_at text at h, eq-eqb (get_or text at 0) quote q)

    pub escaped_end : (get_or text at 0 ≡ quote → ⊥) → closing true (drop at text) ≡ 0
    unfolding closing
    escaped_end q = rw (drop_at text at h, ne_eqb (get_or text at 0) quote q)

    -- a quote ends the string, a newline ends nothing, and with other bytes reading goes on
    pub quote_end : get_or text at 0 ≡ quote → closing false (drop at text) ≡ 1
    unfolding closing
    quote_end q = rw (drop_at text at h, eq-eqb (get_or text at 0) quote q)

    module _ (q : get_or text at 0 ≡ quote → ⊥) where
      pub newline_end : get_or text at 0 ≡ newline → closing false (drop at text) ≡ 0
      unfolding closing
      newline_end n = rw (drop_at text at h, ne_eqb (get_or text at 0) quote q, eq-eqb (get_or text at 0) newline n)

      pub byte_on : (get_or text at 0 ≡ newline → ⊥) → closing false (drop at text) ≡ longer 1 (closing (eqb (get_or text at 0) backslash) (drop (at + 1) text))
      unfolding closing
      byte_on n = rw (drop_at text at h, ne_eqb (get_or text at 0) quote q, ne_eqb (get_or text at 0) newline n)

-- the string that is open at `start`, as far as it has been read: to `at`
pub record Open (text : List ℕ) (start at : ℕ) (escaped : Bool) : Type 0 where
  pub forward : start ≤ at
  pub ahead : closing false (drop start text) ≡ longer (at - start) (closing escaped (drop at text))

module _ (text : List ℕ) (start : ℕ) where
  pub opened : Open text start start false
  opened = record { forward = omega arith; ahead = sym (ap (λ (k : ℕ). longer k (closing false (drop start text))) (let z : start - start ≡ 0 = omega arith in z) ∙ longer_zero (closing false (drop start text))) }

  module _ (at : ℕ) (e : Bool) (o : Open text start at e) where
    pub open_none : closing e (drop at text) ≡ 0 → closing false (drop start text) ≡ 0
    unfolding longer
    open_none h = o.ahead ∙ rw h

    pub open_closed : closing e (drop at text) ≡ 1 → (0 < at + 1 - start) × (at + 1 - start ≡ closing false (drop start text))
    open_closed h = (omega (arith, o.forward), sym (o.ahead ∙ ap (longer (at - start)) h ∙ longer_some (at - start) 1 (omega arith) ∙ omega (arith, o.forward)))

    pub open_on : (d : Bool) → closing e (drop at text) ≡ longer 1 (closing d (drop (at + 1) text)) → Open text start (at + 1) d
    open_on d h =
        record {
          forward = omega (arith, o.forward);
          ahead = o.ahead ∙ ap (longer (at - start)) h ∙ longer_twice (at - start) (closing d (drop (at + 1) text)) ∙ ap (λ (k : ℕ). longer k (closing d (drop (at + 1) text))) (let z : at - start + 1 ≡ at + 1 - start = omega (arith, o.forward) in z);
        }

-- ---- inside the text

pub closing_inside : (e : Bool) (s : List ℕ) → closing e s ≤ length s
unfolding closing
closing_inside e [] = omega arith
closing_inside true (b ∷ rest) = go (eqb b quote) (closing_inside false rest)
  where
    go : (t : Bool) → closing false rest ≤ length rest → cond t (longer 1 (closing false rest)) 0 ≤ suc (length rest)
    go true i = longer_within _ _ i
    go false i = omega arith
closing_inside false (b ∷ rest) = go (eqb b quote) (eqb b newline) (eqb b backslash) (closing_inside (eqb b backslash) rest)
  where
    go : (t u e : Bool) → closing e rest ≤ length rest → cond t 1 (cond u 0 (longer 1 (closing e rest))) ≤ suc (length rest)
    go true u e i = omega arith
    go false true e i = omega arith
    go false false e i = longer_within _ _ i

-- ---- a piece of the text has the same end, or none

-- n, where it is at most m
abbrev within : ℕ → ℕ → ℕ
within m n = cond (leb n m) n 0

within_zero : (n : ℕ) → 0 ≡ within 0 n
within_zero zero = refl
within_zero (suc n) = rw (lt-leb (suc n) 0 (omega arith))

within_none : (m : ℕ) → 0 ≡ within m 0
within_none m = rw (le-leb 0 m (omega arith))

closing_take : (e : Bool) (s : List ℕ) (m : ℕ) → closing e (take m s) ≡ within m (closing e s)
unfolding closing
closing_take e [] zero = refl
closing_take e [] (suc m) = within_none (suc m)
closing_take e (b ∷ rest) zero = within_zero (closing e (b ∷ rest))
closing_take true (b ∷ rest) (suc m) = go (eqb b quote) (closing_take false rest m)
  where
    go : (t : Bool) → closing false (take m rest) ≡ within m (closing false rest) → cond t (longer 1 (closing false (take m rest))) 0 ≡ within (suc m) (cond t (longer 1 (closing false rest)) 0)
    go true i = ap (longer 1) i ∙ longer_cut (closing false rest) m
    go false i = within_none (suc m)
closing_take false (b ∷ rest) (suc m) = go (eqb b quote) (eqb b newline) (eqb b backslash) (closing_take (eqb b backslash) rest m)
  where
    go : (t u e : Bool) → closing e (take m rest) ≡ within m (closing e rest) → cond t 1 (cond u 0 (longer 1 (closing e (take m rest)))) ≡ within (suc m) (cond t 1 (cond u 0 (longer 1 (closing e rest))))
    go true u e i = rw (le-leb 1 (suc m) (omega arith))
    go false true e i = within_none (suc m)
    go false false e i = ap (longer 1) i ∙ longer_cut (closing e rest) m

-- so a piece is a string where it reaches as far as the string's end, and nowhere else
pub string_kind_lem : (rest : List ℕ) → 1 ≤ length rest → string_kind rest ≡ cond (eqb (closing false rest) (length rest)) String Stray
string_kind_lem [] h = absurd (let z : ⊥ = omega arith in z)
string_kind_lem (b ∷ rest) h = refl

pub piece_kind : (s : List ℕ) (n : ℕ) → 1 ≤ n → n ≤ length s → string_kind (take n s) ≡ cond (eqb (closing false s) n) String Stray
piece_kind s n h k =
    let len = length-take-le n s k in
    string_kind_lem (take n s) (omega arith) ∙ rw (len, closing_take false s n) (ap (λ (t : Bool). cond t String Stray) (same (closing false s)))
  where
    same : (c : ℕ) → eqb (within n c) n ≡ eqb c n
    same c = go (leb c n) refl
      where
        go : (t : Bool) → leb c n ≡ t → eqb (within n c) n ≡ eqb c n
        go true e = rw e
        go false e = rw (e, ne_eqb 0 n (λ z. omega arith), ne_eqb c n (λ z. omega (arith, leb-false c n e)))

-- ---- a string is what stands between two quotes

-- behind a backslash, or not
abbrev Rest : Bool → List ℕ → Type 0
Rest true s = Quotable (backslash ∷ s)
Rest false s = Quotable s

-- the bytes that end a string: what is still between the quotes, and the closing one
pub record Ends (e : Bool) (rest : List ℕ) : Type 0 where
  pub inner : List ℕ
  pub in_quotes : rest ≡ inner ++ quote ∷ []
  pub quotable : Rest e inner

-- one more byte before them
behind : (b : ℕ) {e d : Bool} {rest : List ℕ} (x : Ends e rest) → (Rest e x.inner → Rest d (b ∷ x.inner)) → Ends d (b ∷ rest)
behind b x f = record { inner = b ∷ x.inner; in_quotes = ap (λ (s : List ℕ). b ∷ s) x.in_quotes; quotable = f x.quotable }

behind_backslash : (b : ℕ) → b ≡ backslash → {rest : List ℕ} → Ends true rest → Ends false (b ∷ rest)
behind_backslash b e x = behind b x (λ q. rw e q)

behind_quote : (b : ℕ) → b ≡ quote → {rest : List ℕ} → Ends false rest → Ends true (b ∷ rest)
behind_quote b e x = behind b x (λ q. rw e (escape q))

longer_one : (n m : ℕ) → longer 1 n ≡ suc m → (n ≡ m) × (1 ≤ n)
unfolding longer
longer_one zero m h = absurd (let z : ⊥ = omega arith in z)
longer_one (suc n) m h = (omega arith, omega arith)

no_rest : (rest : List ℕ) → 1 ≡ suc (length rest) → rest ≡ []
no_rest [] h = refl
no_rest (b ∷ rest) h = absurd (let z : ⊥ = omega arith in z)

pub closed_ends : (e : Bool) (rest : List ℕ) → closing e rest ≡ length rest → 1 ≤ length rest → Ends e rest
unfolding closing
closed_ends e [] h l = absurd (let z : ⊥ = omega arith in z)
closed_ends true (b ∷ rest) h l = go (eqb b quote) refl (closed_ends false rest) h
  where
    go : (t : Bool) → eqb b quote ≡ t → (closing false rest ≡ length rest → 1 ≤ length rest → Ends false rest) → cond t (longer 1 (closing false rest)) 0 ≡ suc (length rest) → Ends true (b ∷ rest)
    go true q i k =
        let n = longer_one _ _ k in
        behind_quote b (eqb-true b quote q) (i n.0 (omega (arith, n.0, n.1)))
    go false q i k = absurd (let z : ⊥ = omega arith in z)
closed_ends false (b ∷ rest) h l = go (eqb b quote) refl (eqb b newline) refl (eqb b backslash) refl (closed_ends (eqb b backslash) rest) h
  where
    go : (t : Bool) → eqb b quote ≡ t → (u : Bool) → eqb b newline ≡ u → (e : Bool) → eqb b backslash ≡ e → (closing e rest ≡ length rest → 1 ≤ length rest → Ends e rest) → cond t 1 (cond u 0 (longer 1 (closing e rest))) ≡ suc (length rest) → Ends false (b ∷ rest)
    go true q u n e f i k = record { inner = []; in_quotes = rw (eqb-true b quote q, no_rest rest k); quotable = nothing }
    go false q true n e f i k = absurd (let z : ⊥ = omega arith in z)
    go false q false n true f i k =
        let m = longer_one _ _ k in
        behind_backslash b (eqb-true b backslash f) (i m.0 (omega (arith, m.0, m.1)))
    go false q false n false f i k =
        let m = longer_one _ _ k in
        behind b (i m.0 (omega (arith, m.0, m.1))) (byte (eqb-false b quote q) (eqb-false b backslash f) (eqb-false b newline n))

-- and what stands between two quotes ends there, whatever follows
pub quotable_closing : {s : List ℕ} → Quotable s → (more : List ℕ) → closing false (s ++ quote ∷ more) ≡ suc (length s)
unfolding closing longer
quotable_closing nothing more = refl
quotable_closing (byte {b} q e n x) more = rw (ne_eqb b quote q, ne_eqb b newline n, ne_eqb b backslash e, quotable_closing x more) (omega arith)
quotable_closing (escape {rest} x) more = rw (quotable_closing x more, longer_twice 1 (suc (length rest))) (omega arith)

-- ---- no newline stands there

in_line_lem : (b : ℕ) → (b ≡ newline → ⊥) → in_line b ≡ true
unfolding in_line
in_line_lem b h = rw (ne_eqb b newline h)

quotable_in_line : {s : List ℕ} → Quotable s → every in_line (s ++ quote ∷ []) ≡ true
unfolding every in_line
quotable_in_line nothing = refl
quotable_in_line (byte {b} q e n x) = rw (in_line_lem b n) (quotable_in_line x)
quotable_in_line (escape x) = quotable_in_line x

pub closing_in_line : (rest : List ℕ) → closing false rest ≡ length rest → 1 ≤ length rest → every in_line rest ≡ true
closing_in_line rest h l = let x = closed_ends false rest h l in rw x.in_quotes (quotable_in_line x.quotable)

-- ---- the bytes between the quotes

pub between_length : (bytes : List ℕ) → length (between bytes) ≡ length bytes - 2
unfolding between
between_length bytes = simp (length-take, length-drop) (omega arith)

module _ (s : List ℕ) where
  pub between_quoted : between (quoted s) ≡ s
  unfolding between
  between_quoted = let n : suc (length (s ++ quote ∷ [])) - 2 ≡ length s = simp length-append (omega arith) in rw n (take-append_seam s (quote ∷ []))

  opened_quoted : take (length (quoted s) - 1) (quoted s) ≡ quote ∷ s
  opened_quoted = let n : suc (length (s ++ quote ∷ [])) - 1 ≡ suc (length s) = simp length-append (omega arith) in rw n (ap (λ (r : List ℕ). quote ∷ r) (take-append_seam s (quote ∷ [])))

module _ (bytes : List ℕ) (x : IsString bytes) where
  is_inner : between bytes ≡ x.inner
  is_inner = ap between x.in_quotes ∙ between_quoted x.inner

  pub string_quotable : Quotable (between bytes)
  string_quotable = rw is_inner x.quotable

  pub string_long : 2 ≤ length bytes
  string_long = rw x.in_quotes (simp length-append (omega arith))

  -- a string is its opening quote, those bytes, and its closing quote; and without the last, the opening quote and those bytes
  pub string_parts : bytes ≡ quoted (between bytes)
  string_parts = x.in_quotes ∙ ap quoted (sym is_inner)

  pub string_opened : take (length bytes - 1) bytes ≡ quote ∷ between bytes
  string_opened = ap (λ (b : List ℕ). take (length b - 1) b) x.in_quotes ∙ opened_quoted x.inner ∙ ap (λ (s : List ℕ). quote ∷ s) (sym is_inner)
