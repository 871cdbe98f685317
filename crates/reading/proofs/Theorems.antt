-- What holds of the readings of every language that some lawful machine reads. The statements stand at the end.
use mathlib.Core.Path.{◌≡◌, refl, sym as inv, ap, ap₂, ◌∙◌}
use mathlib.Core.Logic.{inl, inr}
use mathlib.Core.List.{List, [], ◌∷◌, ◌++◌, append_assoc, append-nil}
use Prim.Native.Nat.{ℕ, suc, ◌+◌, ◌≤◌}
use native.Mathlib.Omega.{arith}
use native.Mathlib.Decide.{dec_le}
use lib.ListN.{length, take, length-append}
use lib.Seq.{take_at, take-length}
use Rattle.reading.specs.Reading.{Marked, ◌at◌, ◌▹◌, Placed, tokens, unplaced, Language, seen, Within, Begins, TokensBegin, TokensAre, Begun, Answer, tree, refused, Reading, read, wrong, short, over}
use Rattle.reading.specs.Faults.{place_at, AtFault, cannot, passes, Leftmost, FirstWrong}
use Rattle.reading.specs.Machine.{Machine, answer, Lawful}
use Rattle.reading.proofs.Lists.{tokens_append, tokens_on, unplaced_append, within_split}
use Rattle.reading.proofs.Lawful.{reads, unique, same_marks, one_tree}

tokens_length : {T M : Type 0} (ps : List (Marked T M)) → length (tokens ps) ≡ length ps
unfolding tokens
tokens_length [] = refl
tokens_length (p ∷ ps) = ap suc (tokens_length ps)

unplaced_length : {P T : Type 0} (ts : List (Placed P T)) → length (unplaced ts) ≡ length ts
unfolding unplaced
unplaced_length [] = refl
unplaced_length (t ∷ ts) = ap suc (unplaced_length ts)

pub place_here : {P T : Type 0} (end : P) (before : List (Placed P T)) (t : Placed P T) (after : List (Placed P T)) → place_at end (before ++ t ∷ after) (length before) ≡ t.place
unfolding place_at
place_here end [] t after = refl
place_here end (u ∷ before) t after = place_here end before t after

place_end : {P T : Type 0} (end : P) (ts : List (Placed P T)) → place_at end ts (length ts) ≡ end
unfolding place_at
place_end end [] = refl
place_end end (t ∷ ts) = place_end end ts

split : {P T : Type 0} (before : List (Placed P T)) (t : Placed P T) (after ts : List (Placed P T)) → before ++ t ∷ after ≡ ts → unplaced before ++ t.token ∷ unplaced after ≡ unplaced ts
unfolding unplaced
split before t after ts e = rw (← e) (inv (unplaced_append before (t ∷ after)))

-- the shorter of two beginnings of a list begins the longer
longer : {A : Type 0} (a b c d : List A) → a ++ b ≡ c ++ d → length c ≤ length a → (r : List A) × (a ≡ c ++ r)
longer a b [] d e h = (a, refl)
longer [] b (y ∷ c) d e h = absurd (omega arith)
longer (x ∷ a) b (y ∷ c) d e h =
    let q = longer a b c d (cc) (omega arith) in
    let z : x ≡ y = cc in
    (q.0, ap₂ ◌∷◌ z q.1)

-- marked tokens part where their tokens do
parted : {T M : Type 0} (ps : List (Marked T M)) (l m : List T) → tokens ps ≡ l ++ m → (ps₁ ps₂ : List (Marked T M)) × (ps ≡ ps₁ ++ ps₂) × (tokens ps₁ ≡ l)
unfolding tokens
parted ps [] m e = ([], ps, refl, refl)
parted [] (t ∷ l) m e = let z : ◌≡◌ {A = ℕ} 0 1 = cc in absurd (omega arith)
parted (p ∷ ps) (t ∷ l) m e =
    let (x, y, f, g) = parted ps l m (cc) in
    let z : p.token ≡ t = cc in
    (p ∷ x, y, ap (λ w. p ∷ w) f, rw (z, g))

module _ {T M : Type 0} (L : Language T M) where
  begun_tokens : (ts : List T) → Begun L ts → TokensBegin L ts
  begun_tokens ts b = let (c, v, e) = b.begins in (c, tokens v, rw (e, ← b.same) (tokens_append b.marked v))

  shorter_begins : (l m : List T) → TokensBegin L (l ++ m) → TokensBegin L l
  shorter_begins l m (c, v, e) = (c, m ++ v, e ∙ append_assoc l m v)

  within_none : (v : L.Memory) (p : Marked T M) (n : ℕ) → Within L v (p ∷ []) → L.fault v p ≡ suc n → ⊥
  unfolding Within
  within_none v p n w f = let z : 0 ≡ suc n = inv w.0 ∙ f in omega arith

  -- a wrong token, and a list of tokens that is too short, by position
  wrong_first : (before : List T) (t : T) (after ts : List T) (k : ℕ) → length before ≡ k → before ++ t ∷ after ≡ ts → TokensBegin L before → ¬ TokensBegin L (before ▹ t) → FirstWrong L ts k
  wrong_first before t after ts k l e b d =
      let size : length ts ≡ length before + length (t ∷ after) = rw (← e) (length-append before (t ∷ after)) in
      let upto : take (suc k) ts ≡ before ▹ t = rw (← e, ← (append_assoc before (t ∷ []) after)) (take_at (before ▹ t) after (suc k) (rw length-append (omega arith))) in
      record { before = rw (← e, take_at before (t ∷ after) k l) b; cannot_go_on = λ z v. d (rw upto at v); cannot_end = λ z w. omega arith; inside = omega arith }

  short_first : (ts : List T) (k : ℕ) → length ts ≡ k → TokensBegin L ts → ¬ TokensAre L ts → FirstWrong L ts k
  short_first ts k l b d = record { before = rw (← l, take-length ts) b; cannot_go_on = λ z v. omega arith; cannot_end = λ z w. d w; inside = omega arith }

  passes_at : {P : Type 0} (ps : List (Marked T M)) (m : M) (before : List (Placed P T)) (t : Placed P T) (after ts : List (Placed P T)) → before ++ t ∷ after ≡ ts → tokens ps ≡ unplaced before → Begins L (ps ▹ (t.token at m)) → (n : ℕ) → L.fault (seen L L.fresh (unplaced before)) (t.token at m) ≡ suc n → AtFault L (unplaced ts) (length before)
  passes_at ps m before t after ts e q g n f =
      let k : length ps ≡ length before = inv (tokens_length ps) ∙ rw q (unplaced_length before) in
      rw (← k) (passes ps (t.token at m) (unplaced after) (rw q (split before t after ts e)) g n (rw q f))

module _ {T M : Type 0} (L : Language T M) (K : Machine T M L.Tree) (W : Lawful L K) where
  -- no token of a beginning within the sizes passes one
  kept_inside : (ps x y : List (Marked T M)) → ps ≡ x ++ y → Begins L ps → Within L L.fresh ps → (before : List (Marked T M)) (p : Marked T M) → tokens x ≡ tokens (before ▹ p) → Begins L (before ▹ p) → (n : ℕ) → L.fault (seen L L.fresh (tokens before)) p ≡ suc n → ⊥
  kept_inside ps x y e (c, v, s) w before p z g n f =
      let here : x ≡ before ▹ p = same_marks L K W x (before ▹ p) (c, y ++ v, s ∙ rw e (append_assoc x y v)) g z in
      let upto : Within L L.fresh (before ▹ p) = rw here at (within_split L L.fresh x y (rw e at w)).0 in
      within_none L _ p n (within_split L L.fresh before (p ∷ []) upto).1 f

  -- behind tokens that begin some tree within the sizes, a fault is further right
  no_fault_before : (w rest ts : List T) → w ++ rest ≡ ts → Begun L w → (i : ℕ) → AtFault L ts i → length w ≤ i
  no_fault_before w rest ts e b i (cannot before t after q d) = go (dec_le (length w) (length before))
    where
      go : Dec (length w ≤ length before) → length w ≤ length before
      go (yes h) = h
      go (no h) =
          let (r, k) = longer w rest (before ▹ t) after (e ∙ inv q ∙ inv (append_assoc before (t ∷ []) after)) (rw length-append (omega arith)) in
          absurd (d (shorter_begins L (before ▹ t) r (rw (← k) (begun_tokens L w b))))
  no_fault_before w rest ts e b i (passes before p after q g n f) = go (dec_le (length w) (length before))
    where
      go : Dec (length w ≤ length before) → length w ≤ length before
      go (yes h) = h
      go (no h) =
          let long : length (tokens (before ▹ p)) ≡ suc (length before) = tokens_length (before ▹ p) ∙ rw length-append (omega arith) in
          let same : w ++ rest ≡ tokens (before ▹ p) ++ after = e ∙ inv q ∙ rw (tokens_on before) (inv (append_assoc (tokens before) (p.token ∷ []) after)) in
          let (r, k) = longer w rest (tokens (before ▹ p)) after same (omega arith) in
          let (x, y, split, z) = parted b.marked (tokens (before ▹ p)) r (b.same ∙ k) in
          absurd (kept_inside b.marked x y split b.begins b.within before p z g n f)

  module _ {P : Type 0} (end : P) where
    place_of : Answer P L.Tree → P
    place_of (tree c) = end
    place_of (refused n q) = q

    at_token : (ts before : List (Placed P T)) (t : Placed P T) (after : List (Placed P T)) → before ++ t ∷ after ≡ ts → Begun L (unplaced before) → (q : P) → t.place ≡ q → AtFault L (unplaced ts) (length before) → Leftmost L end ts q
    at_token ts before t after e b q h f = record { position = length before; place = rw (← e) (place_here end before t after) ∙ h; fault = inl f; first = λ i g. rw (← (unplaced_length before)) (no_fault_before (unplaced before) _ (unplaced ts) (split before t after ts e) b i g) }

    -- ---- the statements

    -- each token list has a reading: the machine's answer
    pub answer_is_reading : (ts : List (Placed P T)) → Reading L end ts (answer L K end ts)
    answer_is_reading ts = reads L K W end ts

    -- and no other
    pub reading_is_answer : (ts : List (Placed P T)) (a : Answer P L.Tree) → Reading L end ts a → answer L K end ts ≡ a
    reading_is_answer ts a h = unique L K W end ts a h

    pub one_reading : (ts : List (Placed P T)) (a b : Answer P L.Tree) → Reading L end ts a → Reading L end ts b → a ≡ b
    one_reading ts a b f g = inv (reading_is_answer ts a f) ∙ reading_is_answer ts b g

    pub each_one_reading : (ts : List (Placed P T)) → (a : Answer P L.Tree) × Reading L end ts a × ((b : Answer P L.Tree) → Reading L end ts b → a ≡ b)
    each_one_reading ts = (answer L K end ts, answer_is_reading ts, reading_is_answer ts)

    -- the refusal is at the leftmost fault, or at the end where there is none
    pub leftmost : (ts : List (Placed P T)) (a : Answer P L.Tree) (n : ℕ) (q : P) → Reading L end ts a → a ≡ refused n q → Leftmost L end ts q
    unfolding place_of
    leftmost ts a n q (read c e w) h = let z : ◌≡◌ {A = ℕ} 0 1 = cc in absurd (omega arith)
    leftmost ts a n q (wrong before t after e b d) h = at_token ts before t after e b q (ap place_of h) (rw (← (unplaced_length before)) (cannot (unplaced before) t.token (unplaced after) (split before t after ts e) d))
    leftmost ts a n q (short b d) h = record { position = length ts; place = place_end end ts ∙ ap place_of h; fault = inr refl; first = λ i f. rw (← (unplaced_length ts)) (no_fault_before (unplaced ts) [] (unplaced ts) (append-nil _) b i f) }
    leftmost ts a n q (over before t after e b m g k f) h = at_token ts before t after e b q (ap place_of h) (passes_at L b.marked m before t after ts e b.same g k f)

    -- where no size has the number 2: refusal 2 stands at the first token that no tree can have there, or at the end of what is no tree
    pub two_first : ((v : L.Memory) (p : Marked T M) → L.fault v p ≡ 2 → ⊥) → (ts : List (Placed P T)) (a : Answer P L.Tree) (q : P) → Reading L end ts a → a ≡ refused 2 q → (k : ℕ) × (place_at end ts k ≡ q) × FirstWrong L (unplaced ts) k
    unfolding place_of
    two_first no_2 ts a q (read c e w) h = let z : ◌≡◌ {A = ℕ} 0 1 = cc in absurd (omega arith)
    two_first no_2 ts a q (wrong before t after e b d) h = (length before, rw (← e) (place_here end before t after) ∙ ap place_of h, wrong_first L (unplaced before) t.token (unplaced after) (unplaced ts) (length before) (unplaced_length before) (split before t after ts e) (begun_tokens L (unplaced before) b) d)
    two_first no_2 ts a q (short b d) h = (length ts, place_end end ts ∙ ap place_of h, short_first L (unplaced ts) (length ts) (unplaced_length ts) (begun_tokens L (unplaced ts) b) d)
    two_first no_2 ts a q (over before t after e b m g n f) h = absurd (no_2 _ _ (f ∙ let z : suc n ≡ 2 = cc in z))

  -- two trees with the same tokens are equal
  pub tree_unique : (c d : L.Tree) → tokens (L.spell c) ≡ tokens (L.spell d) → c ≡ d
  tree_unique c d e = one_tree L K W c d e
