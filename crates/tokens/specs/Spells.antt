-- What a token of each kind looks like, in plain words. It is the same as `kind_of` (`spells`, `kind_of_spelled`).
use Rattle.std.specs.Prelude.{ℕ, ◌≤◌, ◌≡◌, true, List, [], ◌∷◌, length, get_or, drop}
use Rattle.lexis.specs.declared.class.Class.{Class}
use Rattle.lexis.specs.declared.class.Class.TheVariants.{Lower, Upper, Digit}
use Rattle.lexis.specs.declared.run.Run.{Run}
use Rattle.lexis.specs.declared.run.Run.TheVariants.{Word, Digits}
use Rattle.lexis.specs.declared.kind.Kind.{Kind}
use Rattle.lexis.specs.declared.kind.Kind.TheVariants.{Name, Not, Variable, Anonymous, Number, Open, Close, Comma, Dot, If, Minus, Plus, Times, Equal, Unequal, AlsoUnequal, Less, AtMost, Greater, AtLeast, End, Stray, String, Bar}
use Rattle.lexis.specs.Class.{class_of}
use Rattle.lexis.specs.Run.{goes_on}
use Rattle.texts.specs.Prefix.{every}
use Rattle.lexis.specs.Strings.{IsString}

-- the bytes of `not`, `_` and the marks; words, numbers and strings have many spellings
abbrev pub spelling : Kind → List ℕ
spelling Name = []
spelling Not = 110 ∷ 111 ∷ 116 ∷ []
spelling Variable = []
spelling Anonymous = 95 ∷ []
spelling Number = []
spelling Open = 40 ∷ []
spelling Close = 41 ∷ []
spelling Comma = 44 ∷ []
spelling Dot = 46 ∷ []
spelling If = 58 ∷ 45 ∷ []
spelling Minus = 45 ∷ []
spelling Plus = 43 ∷ []
spelling Times = 42 ∷ []
spelling Equal = 61 ∷ []
spelling Unequal = 33 ∷ 61 ∷ []
spelling AlsoUnequal = 60 ∷ 62 ∷ []
spelling Less = 60 ∷ []
spelling AtMost = 60 ∷ 61 ∷ []
spelling Greater = 62 ∷ []
spelling AtLeast = 62 ∷ 61 ∷ []
spelling End = []
spelling Stray = []
spelling String = []
spelling Bar = 124 ∷ []

-- bytes of which the first has this class, and all others go on this run
pub record Starts (class : Class) (run : Run) (bytes : List ℕ) : Type 0 where
  pub some : 1 ≤ length bytes
  pub first : class_of (get_or bytes 0 0) ≡ class
  pub others : every (goes_on run) (drop 1 bytes) ≡ true

-- the bytes are a token of the kind
abbrev pub Spells : Kind → List ℕ → Type 0
Spells Name bytes = Starts Lower Word bytes × (bytes ≡ spelling Not → ⊥)
Spells Not bytes = bytes ≡ spelling Not
Spells Variable bytes = Starts Upper Word bytes
Spells Anonymous bytes = bytes ≡ spelling Anonymous
Spells Number bytes = Starts Digit Digits bytes × (get_or bytes 0 0 ≡ 48 → length bytes ≡ 1)
Spells Open bytes = bytes ≡ spelling Open
Spells Close bytes = bytes ≡ spelling Close
Spells Comma bytes = bytes ≡ spelling Comma
Spells Dot bytes = bytes ≡ spelling Dot
Spells If bytes = bytes ≡ spelling If
Spells Minus bytes = bytes ≡ spelling Minus
Spells Plus bytes = bytes ≡ spelling Plus
Spells Times bytes = bytes ≡ spelling Times
Spells Equal bytes = bytes ≡ spelling Equal
Spells Unequal bytes = bytes ≡ spelling Unequal
Spells AlsoUnequal bytes = bytes ≡ spelling AlsoUnequal
Spells Less bytes = bytes ≡ spelling Less
Spells AtMost bytes = bytes ≡ spelling AtMost
Spells Greater bytes = bytes ≡ spelling Greater
Spells AtLeast bytes = bytes ≡ spelling AtLeast
Spells End bytes = ⊥
Spells Stray bytes = ⊥
Spells String bytes = IsString bytes
Spells Bar bytes = bytes ≡ spelling Bar
