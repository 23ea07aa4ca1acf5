-- The longest punctuator at the front of a text: what is found is one, and none that may stand there is longer.
use Rattle.std.proofs.Common.{◌≡◌, ℕ, ◌<◌, ◌≤◌, Bool, true, false, ◌==◌, ◌&&◌, not, List, [], ◌∷◌, ◌++◌, length, Option, Some, None, IfSome, refl, sym, ◌∙◌, ap, subst, arith, eq-eqb, true≢false, bytes_eq, if◌then◌else◌}
use Rattle.std.specs.Char.{is_ascii_digit}
use Rattle.std.proofs.lemmas.Slice.Eq.{bytes_eq-Decides}
use Rattle.es_lexer.specs.declared.bytes.First.{First}
use Rattle.es_lexer.specs.declared.bytes.First.TheVariants as first
use Rattle.es_lexer.specs.declared.bracket.BracketKind.TheVariants.{Curly}
use Rattle.es_lexer.specs.declared.bracket.Role.{Role}
use Rattle.es_lexer.specs.declared.bracket.Role.TheVariants.{Opens, Closes, Continues, Plain}
use Rattle.es_lexer.specs.declared.signs.Sign.{Sign}
use Rattle.es_token.specs.declared.token.TokenKind.{TokenKind}
use Rattle.es_token.specs.declared.token.TokenKind.TheVariants as kind
use Rattle.es_lexer.specs.Bytes.{first_of}
use Rattle.es_lexer.specs.Brackets.{role_of}
use Rattle.es_lexer.specs.Goal.{begins_digit, may_stand, stands_apart}
use Rattle.es_lexer.specs.Words.{WordTable}
use Rattle.es_lexer.specs.Signs.{signs_of_one, signs_of_two, signs_of_three, sign_in, sign_kind, sized, two_before, sign_at}

-- ---- facts of all entries of a table
abbrev pub every : (List ℕ → TokenKind → Bool) → WordTable → Bool
every p [] = true
every p (entry ∷ table) = p entry.0 entry.1 && every p table

both_left : (u v : Bool) → (u && v) ≡ true → u ≡ true
both_left true v e = refl
both_left false v e = cc

both_right : (u v : Bool) → (u && v) ≡ true → v ≡ true
both_right true v e = e
both_right false v e = cc

-- what a text spells passes what all entries pass
passes_by : (p : List ℕ → TokenKind → Bool) (s t : List ℕ) (j k : TokenKind) (v : Bool) (other : Option TokenKind)
    → bytes_eq s t ≡ v → p t j ≡ true → (other ≡ Some k → p s k ≡ true)
    → (if v then Some j else other) ≡ Some k → p s k ≡ true
passes_by p s t j k true other e h g w =
    let same : s ≡ t = (bytes_eq-Decides s t).0 e in
    let kinds : j ≡ k = cc in
    subst (λ (u : List ℕ). p u k ≡ true) (sym same) (subst (λ (i : TokenKind). p t i ≡ true) kinds h)
passes_by p s t j k false other e h g w = g w

pub passes : (p : List ℕ → TokenKind → Bool) (table : WordTable) (s : List ℕ) (k : TokenKind) → every p table ≡ true
    → sign_in table s ≡ Some k → p s k ≡ true
unfolding sign_in
passes p [] s k h w = cc
passes p (entry ∷ table) s k h w =
    passes_by p s entry.0 entry.1 k (bytes_eq s entry.0) (sign_in table s) refl
    (both_left (p entry.0 entry.1) (every p table) h)
    (passes p table s k (both_right (p entry.0 entry.1) (every p table) h)) w

pub sign_passes : (p : List ℕ → TokenKind → Bool) (s : List ℕ) (k : TokenKind) → every p signs_of_one ≡ true
    → every p signs_of_two ≡ true → every p signs_of_three ≡ true → sign_kind s ≡ Some k → p s k ≡ true
unfolding sign_kind
sign_passes p [] k f g h w = cc
sign_passes p (a ∷ []) k f g h w = passes p signs_of_one (a ∷ []) k f w
sign_passes p (a ∷ b ∷ []) k f g h w = passes p signs_of_two (a ∷ b ∷ []) k g w
sign_passes p (a ∷ b ∷ c ∷ []) k f g h w = passes p signs_of_three (a ∷ b ∷ c ∷ []) k h w
sign_passes p (a ∷ b ∷ c ∷ d ∷ s) k f g h w = cc

-- ---- what begins a punctuator
abbrev pub is_sign_class : First → Bool
is_sign_class first.Slash = true
is_sign_class first.Other = true
is_sign_class first.Brace = true
is_sign_class first.Dot = true
is_sign_class c = false

abbrev begins_sign : List ℕ → TokenKind → Bool
begins_sign [] k = false
begins_sign (b ∷ s) k = is_sign_class (first_of b)

-- the first byte of a punctuator is of class Slash or Other
pub sign_begins : (b : ℕ) (s : List ℕ) (k : TokenKind) → sign_kind (b ∷ s) ≡ Some k → is_sign_class (first_of b) ≡ true
unfolding first_of signs_of_one signs_of_two signs_of_three
sign_begins b s k w = sign_passes begins_sign (b ∷ s) k refl refl refl w

-- ---- no punctuator is a Str
abbrev pub is_str : TokenKind → Bool
is_str kind.Str = true
is_str k = false

pub sign_no_str : (s : List ℕ) (k : TokenKind) → sign_kind s ≡ Some k → not (is_str k) ≡ true
unfolding signs_of_one signs_of_two signs_of_three
sign_no_str s k w = sign_passes (λ t j. not (is_str j)) s k refl refl refl w

-- ---- slashes
abbrev pub is_slash : TokenKind → Bool
is_slash kind.Slash = true
is_slash kind.SlashEqual = true
is_slash k = false

-- what no punctuator is, and may stand at some places only
abbrev is_other : TokenKind → Bool
is_other kind.RegExp = true
is_other kind.Shebang = true
is_other k = false

-- a punctuator is a slash's exactly where it begins with one
abbrev slash_right : List ℕ → TokenKind → Bool
slash_right [] k = false
slash_right (b ∷ s) k = (if b == 47 then is_slash k else not (is_slash k)) && not (is_other k)

slash_fits : (s : List ℕ) (k : TokenKind) → sign_kind s ≡ Some k → slash_right s k ≡ true
unfolding signs_of_one signs_of_two signs_of_three
slash_fits s k w = sign_passes slash_right s k refl refl refl w

slash_from : (b : ℕ) (k : TokenKind) (v : Bool) → (b == 47) ≡ v → v ≡ true
    → ((if v then is_slash k else not (is_slash k)) && not (is_other k)) ≡ true → is_slash k ≡ true
slash_from b k true e t h = both_left (is_slash k) (not (is_other k)) h
slash_from b k false e t h = cc

pub slash_is_slash : (b : ℕ) (s : List ℕ) (k : TokenKind) → sign_kind (b ∷ s) ≡ Some k → b ≡ 47 → is_slash k ≡ true
slash_is_slash b s k w e = slash_from b k (b == 47) refl (eq-eqb b 47 e) (slash_fits (b ∷ s) k w)

-- ---- `}`
abbrev is_curly : TokenKind → Bool
is_curly kind.CloseBrace = true
is_curly k = false

abbrev brace_right : List ℕ → TokenKind → Bool
brace_right [] k = false
brace_right (b ∷ s) k = if b == 125 then is_curly k else true

curly_role : (k : TokenKind) → is_curly k ≡ true → role_of k ≡ Closes Curly
unfolding role_of
curly_role kind.CloseBrace e = refl
curly_role k e = cc

brace_from : (b : ℕ) (k : TokenKind) (v : Bool) → (b == 125) ≡ v → v ≡ true
    → (if v then is_curly k else true) ≡ true → is_curly k ≡ true
brace_from b k true e t h = h
brace_from b k false e t h = cc

-- what begins with `}` is one
pub brace_role : (b : ℕ) (s : List ℕ) (k : TokenKind) → sign_kind (b ∷ s) ≡ Some k → b ≡ 125 → role_of k ≡ Closes Curly
unfolding signs_of_one signs_of_two signs_of_three
brace_role b s k w e =
    curly_role k (brace_from b k (b == 125) refl (eq-eqb b 125 e)
    (sign_passes brace_right (b ∷ s) k refl refl refl w))

-- ---- `?.`
abbrev is_chain : TokenKind → Bool
is_chain kind.QuestionDot = true
is_chain k = false

abbrev chain_right : List ℕ → TokenKind → Bool
chain_right s k = if is_chain k then bytes_eq s (63 ∷ 46 ∷ []) else true

chain_fits : (s : List ℕ) (k : TokenKind) → sign_kind s ≡ Some k → chain_right s k ≡ true
unfolding signs_of_one signs_of_two signs_of_three
chain_fits s k w = sign_passes chain_right s k refl refl refl w

chain_back : (s : List ℕ) (k : TokenKind) (v : Bool) → bytes_eq s (63 ∷ 46 ∷ []) ≡ v → v ≡ true
    → sign_kind s ≡ Some k → is_chain k ≡ true
unfolding sign_kind sign_in signs_of_two
chain_back s k v e t w =
    let same : s ≡ 63 ∷ 46 ∷ [] = (bytes_eq-Decides s (63 ∷ 46 ∷ [])).0 (e ∙ t) in
    let other : sign_kind (63 ∷ 46 ∷ []) ≡ Some k = ap sign_kind (sym same) ∙ w in
    let is : kind.QuestionDot ≡ k = cc in
    ap is_chain (sym is)

-- ---- `.`
abbrev pub is_dot : TokenKind → Bool
is_dot kind.Dot = true
is_dot k = false

abbrev dot_right : List ℕ → TokenKind → Bool
dot_right s k = if is_dot k then bytes_eq s (46 ∷ []) else true

dot_by : (s : List ℕ) (k : TokenKind) (v : Bool) → is_dot k ≡ v → v ≡ true
    → (if v then bytes_eq s (46 ∷ []) else true) ≡ true → s ≡ 46 ∷ []
dot_by s k true e t h = (bytes_eq-Decides s (46 ∷ [])).0 h
dot_by s k false e t h = cc

pub dot_spells : (s : List ℕ) (k : TokenKind) → sign_kind s ≡ Some k → is_dot k ≡ true → s ≡ 46 ∷ []
unfolding signs_of_one signs_of_two signs_of_three
dot_spells s k w e = dot_by s k (is_dot k) refl e (sign_passes dot_right s k refl refl refl w)

-- a punctuator that goes on behind a point goes on with no digit
abbrev dots_right : List ℕ → TokenKind → Bool
dots_right [] k = true
dots_right (a ∷ []) k = true
dots_right (a ∷ b ∷ s) k = if a == 46 then not (is_ascii_digit b) else true

dots_by : (b : ℕ) (v : Bool) → v ≡ true → (if v then not (is_ascii_digit b) else true) ≡ true
    → not (is_ascii_digit b) ≡ true
dots_by b true e h = h
dots_by b false e h = cc

pub dots_go_on : (a b : ℕ) (s : List ℕ) (k : TokenKind) → sign_kind (a ∷ b ∷ s) ≡ Some k → a ≡ 46
    → not (is_ascii_digit b) ≡ true
unfolding signs_of_one signs_of_two signs_of_three
dots_go_on a b s k w e =
    dots_by b (a == 46) (eq-eqb a 46 e) (sign_passes dots_right (a ∷ b ∷ s) k refl refl refl w)

-- ---- no punctuator is a number
abbrev is_numeric : TokenKind → Bool
is_numeric kind.Number = true
is_numeric kind.BigInt = true
is_numeric k = false

apart_by : (k : TokenKind) (after : List ℕ) → not (is_numeric k) ≡ true → stands_apart k after ≡ true
unfolding stands_apart
apart_by kind.Number after e = cc
apart_by kind.BigInt after e = cc
apart_by k after e = refl

pub sign_apart : (s : List ℕ) (k : TokenKind) (after : List ℕ) → sign_kind s ≡ Some k → stands_apart k after ≡ true
unfolding signs_of_one signs_of_two signs_of_three
sign_apart s k after w = apart_by k after (sign_passes (λ t j. not (is_numeric j)) s k refl refl refl w)

-- ---- closers are single
abbrev pub is_plain_role : Role → Bool
is_plain_role Plain = true
is_plain_role r = false

abbrev pub is_plain_sign : Option TokenKind → Bool
is_plain_sign (Some k) = is_plain_role (role_of k)
is_plain_sign None = false

-- longer punctuators are plain, and begin with plain ones
abbrev longer_plain : List ℕ → TokenKind → Bool
longer_plain [] k = false
longer_plain (b ∷ s) k = is_plain_role (role_of k) && is_plain_sign (sign_kind (b ∷ []))

two_plain : (a b : ℕ) (k : TokenKind) → sign_kind (a ∷ b ∷ []) ≡ Some k → longer_plain (a ∷ b ∷ []) k ≡ true
unfolding sign_kind sign_in signs_of_one signs_of_two role_of
two_plain a b k w = passes longer_plain signs_of_two (a ∷ b ∷ []) k refl w

three_plain : (a b c : ℕ) (k : TokenKind) → sign_kind (a ∷ b ∷ c ∷ []) ≡ Some k
    → longer_plain (a ∷ b ∷ c ∷ []) k ≡ true
unfolding sign_kind sign_in signs_of_one signs_of_three role_of
three_plain a b c k w = passes longer_plain signs_of_three (a ∷ b ∷ c ∷ []) k refl w

plain_is : (r : Role) → is_plain_role r ≡ true → r ≡ Plain
plain_is (Opens k) e = cc
plain_is (Closes k) e = cc
plain_is Continues e = cc
plain_is Plain e = refl

-- ---- what is found
-- by whether there is a punctuator of this size
size_step : (P : Option Sign → Type 0) (n : ℕ) (o : Option TokenKind) (other : Option Sign)
    → ((k : TokenKind) → o ≡ Some k → P (Some (record { kind = k; size = n }))) → (o ≡ None → P other)
    → P (sized n o other)
unfolding sized
size_step P n (Some k) other f g = f k refl
size_step P n None other f g = g refl

-- ---- `?.` before a digit
before_is : (a b c : ℕ) (k : TokenKind) (v : Bool) → (a == 63 && b == 46 && is_ascii_digit c) ≡ v
    → two_before a b c ≡ Some k → sign_kind (a ∷ b ∷ []) ≡ Some k
unfolding two_before
before_is a b c k true e w = let g : None ≡ Some k = rw e at w in cc
before_is a b c k false e w = rw e at w

two_is : (a b c : ℕ) (k : TokenKind) → two_before a b c ≡ Some k → sign_kind (a ∷ b ∷ []) ≡ Some k
two_is a b c k w = before_is a b c k (a == 63 && b == 46 && is_ascii_digit c) refl w

chain_bytes : (a b : ℕ) (u v : Bool) → (u && (v && true)) ≡ true → (u ≡ true) × (v ≡ true)
chain_bytes a b true true e = (refl, refl)
chain_bytes a b true false e = cc
chain_bytes a b false v e = cc

chain_spells : (a b : ℕ) (k : TokenKind) → sign_kind (a ∷ b ∷ []) ≡ Some k → is_chain k ≡ true
    → ((a == 63) ≡ true) × ((b == 46) ≡ true)
chain_spells a b k w c =
    let f : chain_right (a ∷ b ∷ []) k ≡ true = chain_fits (a ∷ b ∷ []) k w in
    chain_bytes a b (a == 63) (b == 46) (rw c at f)

before_digit : (a b c : ℕ) (k : TokenKind) (v : Bool) → (a == 63 && b == 46 && is_ascii_digit c) ≡ v
    → two_before a b c ≡ Some k → is_chain k ≡ true → is_ascii_digit c ≡ false
unfolding two_before
before_digit a b c k true e w h = let g : None ≡ Some k = rw e at w in cc
before_digit a b c k false e w h =
    let s : ((a == 63) ≡ true) × ((b == 46) ≡ true) = chain_spells a b k (rw e at w) h in
    rw (s.0, s.1) at e

before_some : (a b c : ℕ) (k : TokenKind) (u v d : Bool) → (a == 63) ≡ u → (b == 46) ≡ v → is_ascii_digit c ≡ d
    → sign_kind (a ∷ b ∷ []) ≡ Some k
    → (is_chain k ≡ true → is_ascii_digit c ≡ false) → two_before a b c ≡ Some k
unfolding two_before
before_some a b c k true true true p q r w h =
    let same : bytes_eq (a ∷ b ∷ []) (63 ∷ 46 ∷ []) ≡ true = rw (p, q) refl in
    absurd (true≢false (sym r ∙ h (chain_back (a ∷ b ∷ []) k true same refl w)))
before_some a b c k true true false p q r w h = rw (p, q, r) w
before_some a b c k true false d p q r w h = rw (p, q) w
before_some a b c k false v d p q r w h = rw p w

one_no_chain : (a : ℕ) (k : TokenKind) → sign_kind (a ∷ []) ≡ Some k → not (is_chain k) ≡ true
unfolding sign_kind signs_of_one
one_no_chain a k w = passes (λ t j. not (is_chain j)) signs_of_one (a ∷ []) k refl w

three_no_chain : (a b c : ℕ) (k : TokenKind) → sign_kind (a ∷ b ∷ c ∷ []) ≡ Some k → not (is_chain k) ≡ true
unfolding sign_kind signs_of_three
three_no_chain a b c k w = passes (λ t j. not (is_chain j)) signs_of_three (a ∷ b ∷ c ∷ []) k refl w

-- no `?.` stands before a digit
abbrev pub ChainFits : TokenKind → List ℕ → Type 0
ChainFits k after = is_chain k ≡ true → begins_digit after ≡ false

no_chain : (v : Bool) (T : Type 0) → not v ≡ true → v ≡ true → T
no_chain true T e h = cc
no_chain false T e h = cc

-- what a look for a punctuator finds
pub data SignFound (text : List ℕ) (found : Option Sign) : Type 0 where
  none : (b : ℕ) (after : List ℕ) → text ≡ b ∷ after → sign_kind (b ∷ []) ≡ None → found ≡ None
      → SignFound text found
  some : (s after : List ℕ) (k : TokenKind) → text ≡ s ++ after → sign_kind s ≡ Some k → ChainFits k after
      → found ≡ Some (record { kind = k; size = length s }) → SignFound text found

one_found : (a : ℕ) (rest : List ℕ) → SignFound (a ∷ rest) (sized 1 (sign_kind (a ∷ [])) None)
one_found a rest =
    size_step (SignFound (a ∷ rest)) 1 (sign_kind (a ∷ [])) None
    (λ k e. some (a ∷ []) rest k refl e (λ c. no_chain (is_chain k) (begins_digit rest ≡ false) (one_no_chain a k e) c)
    refl)
    (λ e. none a rest refl e refl)

pub sign_finds : (a : ℕ) (rest : List ℕ) → SignFound (a ∷ rest) (sign_at (a ∷ rest))
unfolding sign_at begins_digit
sign_finds a [] = one_found a []
sign_finds a (b ∷ []) =
    size_step (SignFound (a ∷ b ∷ [])) 2 (sign_kind (a ∷ b ∷ [])) (sized 1 (sign_kind (a ∷ [])) None)
    (λ k e. some (a ∷ b ∷ []) [] k refl e (λ c. refl) refl)
    (λ e. one_found a (b ∷ []))
sign_finds a (b ∷ c ∷ rest) =
    size_step (SignFound (a ∷ b ∷ c ∷ rest)) 3 (sign_kind (a ∷ b ∷ c ∷ [])) _
    (λ k e. some (a ∷ b ∷ c ∷ []) rest k refl e
    (λ h. no_chain (is_chain k) (begins_digit rest ≡ false) (three_no_chain a b c k e) h) refl)
    (λ e. size_step (SignFound (a ∷ b ∷ c ∷ rest)) 2 (two_before a b c) _
    (λ k f. some (a ∷ b ∷ []) (c ∷ rest) k refl (two_is a b c k f)
    (λ h. before_digit a b c k (a == 63 && b == 46 && is_ascii_digit c) refl f h) refl)
    (λ f. one_found a (b ∷ c ∷ rest)))

-- ---- what is spelled is found, or a longer one
pub data SignReached (k : TokenKind) (n : ℕ) (found : Option Sign) : Type 0 where
  same : found ≡ Some (record { kind = k; size = n }) → SignReached k n found
  longer : (j : TokenKind) (m : ℕ) → found ≡ Some (record { kind = j; size = m }) → n < m
      → is_plain_role (role_of j) ≡ true → SignReached k n found

same_sign : (k j : TokenKind) (n : ℕ) (o : Option TokenKind) → o ≡ Some k → o ≡ Some j
    → SignReached k n (Some (record { kind = j; size = n }))
same_sign k j n o e f = let g : j ≡ k = cc in same (ap (λ i. Some (record { kind = i; size = n })) g)

one_reached : (a : ℕ) (k : TokenKind) → sign_kind (a ∷ []) ≡ Some k
    → SignReached k 1 (sized 1 (sign_kind (a ∷ [])) None)
one_reached a k w =
    size_step (SignReached k 1) 1 (sign_kind (a ∷ [])) None (λ j e. same_sign k j 1 (sign_kind (a ∷ [])) w e)
    (λ e. let g : None ≡ Some k = sym e ∙ w in cc)

two_reached : (a b : ℕ) (k : TokenKind) (o : Option TokenKind) (other : Option Sign) → sign_kind (a ∷ b ∷ []) ≡ Some k
    → o ≡ Some k → SignReached k 2 (sized 2 o other)
two_reached a b k o other w e =
    size_step (SignReached k 2) 2 o other (λ j f. same_sign k j 2 o e f)
    (λ f. let g : None ≡ Some k = sym f ∙ e in cc)

pub plain_of_two : (a b : ℕ) (j : TokenKind) → sign_kind (a ∷ b ∷ []) ≡ Some j → is_plain_role (role_of j) ≡ true
plain_of_two a b j e =
    both_left (is_plain_role (role_of j)) (is_plain_sign (sign_kind (a ∷ []))) (two_plain a b j e)

pub plain_of_three : (a b c : ℕ) (j : TokenKind) → sign_kind (a ∷ b ∷ c ∷ []) ≡ Some j
    → is_plain_role (role_of j) ≡ true
plain_of_three a b c j e =
    both_left (is_plain_role (role_of j)) (is_plain_sign (sign_kind (a ∷ []))) (three_plain a b c j e)

pub sign_reaches : (s after : List ℕ) (k : TokenKind) → sign_kind s ≡ Some k → ChainFits k after
    → SignReached k (length s) (sign_at (s ++ after))
unfolding sign_at sign_kind begins_digit
sign_reaches [] after k w h = cc
sign_reaches (a ∷ []) [] k w h = one_reached a k w
sign_reaches (a ∷ []) (b ∷ []) k w h =
    size_step (SignReached k 1) 2 (sign_kind (a ∷ b ∷ [])) _
    (λ j e. longer j 2 refl (omega arith) (plain_of_two a b j e)) (λ e. one_reached a k w)
sign_reaches (a ∷ []) (b ∷ c ∷ after) k w h =
    size_step (SignReached k 1) 3 (sign_kind (a ∷ b ∷ c ∷ [])) _
    (λ j e. longer j 3 refl (omega arith) (plain_of_three a b c j e))
    (λ e. size_step (SignReached k 1) 2 (two_before a b c) _
    (λ j f. longer j 2 refl (omega arith) (plain_of_two a b j (two_is a b c j f))) (λ f. one_reached a k w))
sign_reaches (a ∷ b ∷ []) [] k w h = two_reached a b k (sign_kind (a ∷ b ∷ [])) _ w w
sign_reaches (a ∷ b ∷ []) (c ∷ after) k w h =
    size_step (SignReached k 2) 3 (sign_kind (a ∷ b ∷ c ∷ [])) _
    (λ j e. longer j 3 refl (omega arith) (plain_of_three a b c j e))
    (λ e. two_reached a b k (two_before a b c) _ w
    (before_some a b c k (a == 63) (b == 46) (is_ascii_digit c) refl refl refl w h))
sign_reaches (a ∷ b ∷ c ∷ []) after k w h =
    size_step (SignReached k 3) 3 (sign_kind (a ∷ b ∷ c ∷ [])) _
    (λ j e. same_sign k j 3 (sign_kind (a ∷ b ∷ c ∷ [])) w e) (λ e. let g : None ≡ Some k = sym e ∙ w in cc)
sign_reaches (a ∷ b ∷ c ∷ d ∷ s) after k w h = cc

-- ---- a closer, or a byte that begins nothing, stands alone
pub sign_alone : (b : ℕ) (after : List ℕ) → is_plain_sign (sign_kind (b ∷ [])) ≡ false
    → sign_at (b ∷ after) ≡ sized 1 (sign_kind (b ∷ [])) None
unfolding sign_at
sign_alone b [] h = refl
sign_alone b (c ∷ []) h =
    size_step (λ f. f ≡ sized 1 (sign_kind (b ∷ [])) None) 2 (sign_kind (b ∷ c ∷ [])) _
    (λ j e. absurd (true≢false (sym (both_right (is_plain_role (role_of j)) (is_plain_sign (sign_kind (b ∷ [])))
    (two_plain b c j e)) ∙ h)))
    (λ e. refl)
sign_alone b (c ∷ d ∷ after) h =
    size_step (λ f. f ≡ sized 1 (sign_kind (b ∷ [])) None) 3 (sign_kind (b ∷ c ∷ d ∷ [])) _
    (λ j e. absurd (true≢false (sym (both_right (is_plain_role (role_of j)) (is_plain_sign (sign_kind (b ∷ [])))
    (three_plain b c d j e)) ∙ h)))
    (λ e. size_step (λ f. f ≡ sized 1 (sign_kind (b ∷ [])) None) 2 (two_before b c d) _
    (λ j f. absurd (true≢false (sym (both_right (is_plain_role (role_of j)) (is_plain_sign (sign_kind (b ∷ [])))
    (two_plain b c j (two_is b c d j f))) ∙ h)))
    (λ f. refl))

-- ---- a punctuator may stand
-- by its kind: a slash where `/` divides, `?.` before no digit, and neither a regular expression nor a shebang
may_by : (k : TokenKind) (regexp : Bool) (after : List ℕ) (v : Bool) → ChainFits k after → (v ≡ true → regexp ≡ false)
    → (is_dot k ≡ true → begins_digit after ≡ false)
    → ((if v then is_slash k else not (is_slash k)) && not (is_other k)) ≡ true → may_stand regexp k after ≡ true
unfolding may_stand
may_by kind.RegExp regexp after true h r d e = cc
may_by kind.RegExp regexp after false h r d e = cc
may_by kind.Shebang regexp after true h r d e = cc
may_by kind.Shebang regexp after false h r d e = cc
may_by kind.Slash regexp after true h r d e = ap not (r refl)
may_by kind.Slash regexp after false h r d e = cc
may_by kind.SlashEqual regexp after true h r d e = ap not (r refl)
may_by kind.SlashEqual regexp after false h r d e = cc
may_by kind.Dot regexp after v h r d e = ap not (d refl)
may_by kind.QuestionDot regexp after v h r d e = ap not (h refl)
may_by k regexp after v h r d e = refl

-- what stands behind it and before it
pub may_stand_sign : (b : ℕ) (s : List ℕ) (k : TokenKind) (regexp : Bool) (after : List ℕ)
    → sign_kind (b ∷ s) ≡ Some k → ChainFits k after → ((b == 47) ≡ true → regexp ≡ false)
    → (is_dot k ≡ true → begins_digit after ≡ false) → may_stand regexp k after ≡ true
may_stand_sign b s k regexp after w h r d = may_by k regexp after (b == 47) h r d (slash_fits (b ∷ s) k w)

-- a punctuator's size is within the text
pub size_within : (s : List ℕ) → IfSome (sign_at s) (λ g. g.size ≤ length s)
unfolding sign_at
size_within [] = tt
size_within (a ∷ []) =
    size_step (λ f. IfSome f (λ g. g.size ≤ length (a ∷ []))) 1 (sign_kind (a ∷ [])) None (λ k e. omega arith) (λ e. tt)
size_within (a ∷ b ∷ []) =
    size_step (λ f. IfSome f (λ g. g.size ≤ length (a ∷ b ∷ []))) 2 (sign_kind (a ∷ b ∷ [])) _ (λ k e. omega arith)
    (λ e. size_step (λ f. IfSome f (λ g. g.size ≤ length (a ∷ b ∷ []))) 1 (sign_kind (a ∷ [])) None (λ k e. omega arith)
    (λ e. tt))
size_within (a ∷ b ∷ c ∷ s) =
    size_step (λ f. IfSome f (λ g. g.size ≤ length (a ∷ b ∷ c ∷ s))) 3 (sign_kind (a ∷ b ∷ c ∷ [])) _
    (λ k e. omega arith)
    (λ e. size_step (λ f. IfSome f (λ g. g.size ≤ length (a ∷ b ∷ c ∷ s))) 2 (two_before a b c) _ (λ k e. omega arith)
    (λ e. size_step (λ f. IfSome f (λ g. g.size ≤ length (a ∷ b ∷ c ∷ s))) 1 (sign_kind (a ∷ [])) None
    (λ k e. omega arith) (λ e. tt)))

-- a slash is plain
pub slash_plain : (k : TokenKind) → is_slash k ≡ true → is_plain_role (role_of k) ≡ true
unfolding role_of
slash_plain kind.Slash e = refl
slash_plain kind.SlashEqual e = refl
slash_plain k e = cc

pub slash_some : sign_kind (47 ∷ []) ≡ None → ⊥
unfolding sign_kind sign_in signs_of_one
slash_some e = let f : Some kind.Slash ≡ None = e in cc

pub brace_some : sign_kind (125 ∷ []) ≡ None → ⊥
unfolding sign_kind sign_in signs_of_one
brace_some e = let f : Some kind.CloseBrace ≡ None = e in cc

-- a point
pub point_is_dot : (k : TokenKind) → sign_kind (46 ∷ []) ≡ Some k → is_dot k ≡ true
unfolding sign_kind sign_in signs_of_one
point_is_dot k w = let e : kind.Dot ≡ k = cc in ap is_dot (sym e)

pub point_some : sign_kind (46 ∷ []) ≡ None → ⊥
unfolding sign_kind sign_in signs_of_one
point_some e = let f : Some kind.Dot ≡ None = e in cc

abbrev point_right : List ℕ → TokenKind → Bool
point_right [] k = true
point_right (a ∷ s) k = if a == 46 then is_plain_role (role_of k) else true

point_by : (k : TokenKind) (v : Bool) → v ≡ true → (if v then is_plain_role (role_of k) else true) ≡ true
    → is_plain_role (role_of k) ≡ true
point_by k true e h = h
point_by k false e h = cc

pub point_plain : (a : ℕ) (s : List ℕ) (k : TokenKind) → sign_kind (a ∷ s) ≡ Some k → a ≡ 46
    → is_plain_role (role_of k) ≡ true
unfolding signs_of_one signs_of_two signs_of_three role_of
point_plain a s k w e = point_by k (a == 46) (eq-eqb a 46 e) (sign_passes point_right (a ∷ s) k refl refl refl w)
