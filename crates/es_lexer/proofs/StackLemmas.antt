-- The brackets that are open behind pieces, and how the tokens get their partners.
use Rattle.std.proofs.Common.{◌≡◌, ℕ, zero, suc, ◌+◌, ◌<◌, Bool, List, [], ◌∷◌, ◌++◌, length, Option, Some, None, slice_get, set, refl, sym, ◌∙◌, ap, subst, arith}
use Rattle.std.specs.List.{AllByRecursion}
use Rattle.base.specs.declared.range.Range.{Range}
use Rattle.es_lexer.specs.declared.bracket.BracketKind.{BracketKind}
use Rattle.es_lexer.specs.declared.bracket.BracketKind.TheVariants.{Template}
use Rattle.es_lexer.specs.declared.bracket.OpenBracket.{OpenBracket}
use Rattle.es_lexer.specs.declared.bracket.Role.{Role}
use Rattle.es_lexer.specs.declared.bracket.Role.TheVariants.{Opens, Closes, Continues, Plain}
use Rattle.es_token.specs.declared.token.TokenKind.{TokenKind}
use Rattle.es_token.specs.declared.token.TokenKind.TheVariants as kind
use Rattle.es_token.specs.declared.token.Token.{Token}
use Rattle.es_lexer.specs.Brackets.{role_of}
use Rattle.es_lexer.specs.Pieces.{Piece, blank, line_end, comment, token, Open, count_of, open_at, open_behind, number_of, bracket_of, closer_at, closer_by, partner_of, is_behind, line_since}
use Rattle.es_lexer.specs.Goal.{headed, open_headed, goal_of, goal_in, state_of, token_state, slash_rule, divides, divides_behind, after_for, member, is_front}
use Rattle.es_lexer.specs.Scan as scan

-- ---- the brackets that are open behind pieces, the innermost first
unfoldable pub opens_of : List Piece → List OpenBracket
opens_of [] = []
opens_of (blank s ∷ before) = opens_of before
opens_of (line_end s ∷ before) = opens_of before
opens_of (comment c text ∷ before) = opens_of before
opens_of (token k s ∷ before) =
    scan.pushed (role_of k) (count_of before) (headed before) (scan.left_of (role_of k) (opens_of before))

-- what is kept of an open bracket
abbrev marked : Option Open → Option OpenBracket
marked None = None
marked (Some bracket) =
    Some (record { kind = bracket.kind; number = count_of bracket.before; headed = headed bracket.before })

rest_get : (os : List OpenBracket) (d : ℕ) → slice_get os (suc d) ≡ slice_get (scan.rest_of_open os) d
rest_get [] d = refl
rest_get (o ∷ os) d = refl

open_role : (r : Role) (d : ℕ) (before : List Piece) (os : List OpenBracket)
    → ((e : ℕ) → marked (open_at e before) ≡ slice_get os e)
    → marked (open_behind d r before (λ e. open_at e before))
    ≡ slice_get (scan.pushed r (count_of before) (headed before) (scan.left_of r os)) d
unfolding open_behind scan.pushed scan.left_of
open_role (Opens j) zero before os h = refl
open_role (Opens j) (suc d) before os h = h d
open_role (Closes j) zero before os h = h 1 ∙ rest_get os 0
open_role (Closes j) (suc d) before os h = h (suc (suc d)) ∙ rest_get os (suc d)
open_role Continues zero before os h = refl
open_role Continues (suc d) before os h = h (suc d) ∙ rest_get os d
open_role Plain zero before os h = h 0
open_role Plain (suc d) before os h = h (suc d)

open_is : (before : List Piece) (d : ℕ) → marked (open_at d before) ≡ slice_get (opens_of before) d
unfolding open_at opens_of
open_is [] d = refl
open_is (blank s ∷ before) d = open_is before d
open_is (line_end s ∷ before) d = open_is before d
open_is (comment c text ∷ before) d = open_is before d
open_is (token k s ∷ before) d = open_role (role_of k) d before (opens_of before) (open_is before)

first_is : (os : List OpenBracket) → slice_get os 0 ≡ scan.first_of_open os
first_is [] = refl
first_is (o ∷ os) = refl

-- the innermost one
innermost_is : (before : List Piece) → marked (open_at 0 before) ≡ scan.first_of_open (opens_of before)
innermost_is before = open_is before 0 ∙ first_is (opens_of before)

number_by : (o : Option Open) (m : Option OpenBracket) → marked o ≡ m → (k : BracketKind)
    → number_of o ≡ scan.numbered (Closes k) m
unfolding scan.numbered
number_by None None e k = refl
number_by None (Some m) e k = cc
number_by (Some o) None e k = cc
number_by (Some o) (Some m) e k = cc

headed_by : (o : Option Open) (m : Option OpenBracket) → marked o ≡ m → open_headed o ≡ scan.is_headed m
unfolding scan.is_headed
headed_by None None e = refl
headed_by None (Some m) e = cc
headed_by (Some o) None e = cc
headed_by (Some o) (Some m) e = cc

kind_by : (o : Option Open) (os : List OpenBracket) → marked o ≡ scan.first_of_open os
    → bracket_of o ≡ scan.innermost os
kind_by None [] e = refl
kind_by None (m ∷ os) e = cc
kind_by (Some o) [] e = cc
kind_by (Some o) (m ∷ os) e = cc

pub number_is : (before : List Piece) (k : BracketKind)
    → number_of (open_at 0 before) ≡ scan.numbered (Closes k) (scan.first_of_open (opens_of before))
number_is before k = number_by (open_at 0 before) (scan.first_of_open (opens_of before)) (innermost_is before) k

pub headed_is : (before : List Piece)
    → open_headed (open_at 0 before) ≡ scan.is_headed (scan.first_of_open (opens_of before))
headed_is before = headed_by (open_at 0 before) (scan.first_of_open (opens_of before)) (innermost_is before)

pub bracket_is : (before : List Piece) → bracket_of (open_at 0 before) ≡ scan.innermost (opens_of before)
bracket_is before = kind_by (open_at 0 before) (opens_of before) (innermost_is before)

-- ---- the goal and the state
pub goal_is : (before : List Piece) → goal_in (state_of before) (scan.innermost (opens_of before)) ≡ goal_of before
unfolding goal_of state_of
goal_is before = rw (bracket_is before) refl

by_closed : (k : TokenKind) (line before : Bool) (os : List OpenBracket)
    → divides_behind (slash_rule k) line before (scan.is_headed (scan.closed_of (role_of k) os))
    ≡ divides_behind (slash_rule k) line before (scan.is_headed (scan.first_of_open os))
unfolding divides_behind slash_rule role_of scan.closed_of
by_closed kind.CloseParen line before os = refl
by_closed k line before os = refl

pub state_behind : (before : List Piece) (k : TokenKind) (s : List ℕ)
    → token_state (state_of before) k (scan.is_headed (scan.closed_of (role_of k) (opens_of before)))
    ≡ state_of (token k s ∷ before)
unfolding token_state state_of is_behind line_since divides member headed after_for is_front
state_behind before k s =
    rw (by_closed k (line_since before) (divides before) (opens_of before), ← headed_is before) refl

-- ---- numbers of open brackets
abbrev pub Below : ℕ → List OpenBracket → Type 0
Below n os = AllByRecursion (λ (o : OpenBracket). o.number < n) os

below_more : (os : List OpenBracket) (n : ℕ) → Below n os → Below (n + 1) os
below_more [] n h = tt
below_more (o ∷ os) n h = let l : o.number < n = h.0 in (omega arith, below_more os n h.1)

below_rest : (os : List OpenBracket) (n : ℕ) → Below n os → Below n (scan.rest_of_open os)
below_rest [] n h = tt
below_rest (o ∷ os) n h = h.1

below_role : (r : Role) (os : List OpenBracket) (n : ℕ) (v : Bool) → Below n os
    → Below (n + 1) (scan.pushed r n v (scan.left_of r os))
unfolding scan.pushed scan.left_of
below_role (Opens k) os n v h = (omega arith, below_more os n h)
below_role (Closes k) os n v h = below_more (scan.rest_of_open os) n (below_rest os n h)
below_role Continues os n v h = (omega arith, below_more (scan.rest_of_open os) n (below_rest os n h))
below_role Plain os n v h = below_more os n h

pub below : (before : List Piece) → Below (count_of before) (opens_of before)
unfolding opens_of count_of
below [] = tt
below (blank s ∷ before) = below before
below (line_end s ∷ before) = below before
below (comment c text ∷ before) = below before
below (token k s ∷ before) = below_role (role_of k) (opens_of before) (count_of before) (headed before) (below before)

-- ---- partners
pub length-partnered : (ts : List Token) (n : ℕ) (p : Option ℕ) → length (scan.partnered ts n p) ≡ length ts
unfolding scan.partnered
length-partnered [] n p = refl
length-partnered (t ∷ ts) zero p = refl
length-partnered (t ∷ ts) (suc n) p = ap suc (length-partnered ts n p)

partnered-append : (ts us : List Token) (n : ℕ) (p : Option ℕ) → n < length ts
    → scan.partnered (ts ++ us) n p ≡ scan.partnered ts n p ++ us
unfolding scan.partnered
partnered-append [] us n p l = absurd (omega arith)
partnered-append (t ∷ ts) us zero p l = refl
partnered-append (t ∷ ts) us (suc n) p l = ap (λ vs. t ∷ vs) (partnered-append ts us n p (omega arith))

partnered-last : (ts : List Token) (t : Token) (n : ℕ) (p : Option ℕ) → n ≡ length ts
    → scan.partnered (ts ++ t ∷ []) n p ≡ ts ++ record t { partner = p } ∷ []
unfolding scan.partnered
partnered-last [] t zero p e = refl
partnered-last [] t (suc n) p e = absurd (omega arith)
partnered-last (u ∷ ts) t zero p e = absurd (omega arith)
partnered-last (u ∷ ts) t (suc n) p e = ap (λ vs. u ∷ vs) (partnered-last ts t n p (omega arith))

-- the tokens, where the open brackets get the partners that `later` gives them by their depth
unfoldable pub fill : List OpenBracket → (ℕ → Option ℕ) → List Token → List Token
fill [] later ts = ts
fill (o ∷ os) later ts = fill os (λ d. later (suc d)) (scan.partnered ts o.number (later 0))

fill_same : (os : List OpenBracket) (f g : ℕ → Option ℕ) (ts : List Token) → ((d : ℕ) → f d ≡ g d)
    → fill os f ts ≡ fill os g ts
unfolding fill
fill_same [] f g ts h = refl
fill_same (o ∷ os) f g ts h =
    ap (λ p. fill os (λ d. f (suc d)) (scan.partnered ts o.number p)) (h 0)
    ∙ fill_same os (λ d. f (suc d)) (λ d. g (suc d)) (scan.partnered ts o.number (g 0)) (λ d. h (suc d))

fill-append : (os : List OpenBracket) (f : ℕ → Option ℕ) (ts us : List Token) → Below (length ts) os
    → fill os f (ts ++ us) ≡ fill os f ts ++ us
unfolding fill
fill-append [] f ts us h = refl
fill-append (o ∷ os) f ts us h =
    let l : o.number < length ts = h.0 in
    ap (fill os (λ d. f (suc d))) (partnered-append ts us o.number (f 0) l)
    ∙ fill-append os (λ d. f (suc d)) (scan.partnered ts o.number (f 0)) us
    (subst (λ (n : ℕ). Below n os) (sym (length-partnered ts o.number (f 0))) h.1)

-- the partner of a token of this role
unfoldable pub partner_by : Role → List OpenBracket → (ℕ → Option ℕ) → Option ℕ
partner_by (Opens k) os later = later 0
partner_by (Closes k) os later = scan.numbered (Closes k) (scan.first_of_open os)
partner_by Continues os later = later 0
partner_by Plain os later = None

pub partner_is : (r : Role) (before ps : List Piece)
    → partner_by r (opens_of before) (λ d. closer_at d (count_of before + 1) ps) ≡ partner_of r before ps
unfolding partner_by partner_of
partner_is (Opens k) before ps = refl
partner_is (Closes k) before ps = sym (number_is before k)
partner_is Continues before ps = refl
partner_is Plain before ps = refl

-- a token
abbrev pub with_partner : TokenKind → Range → Bool → Option ℕ → Token
with_partner k range line p = record { kind = k; range = range; line_before = line; partner = p }

opens_later : (n : ℕ) (k : BracketKind) (later : ℕ → Option ℕ) (d : ℕ) → later (suc d) ≡ closer_by d (Opens k) n later
unfolding closer_by
opens_later n k later zero = refl
opens_later n k later (suc d) = refl

plain_later : (n : ℕ) (later : ℕ → Option ℕ) (d : ℕ) → later d ≡ closer_by d Plain n later
unfolding closer_by
plain_later n later zero = refl
plain_later n later (suc d) = refl

-- a bracket that is opened by the last token
fill_open : (os : List OpenBracket) (o : OpenBracket) (later f : ℕ → Option ℕ) (ts : List Token) (k : TokenKind)
    (range : Range) (line : Bool) (p : Option ℕ) → o.number ≡ length ts → Below (length ts) os
    → ((d : ℕ) → later (suc d) ≡ f d)
    → fill (o ∷ os) later (ts ++ with_partner k range line p ∷ [])
    ≡ fill os f ts ++ with_partner k range line (later 0) ∷ []
unfolding fill
fill_open os o later f ts k range line p e h same =
    ap (fill os (λ d. later (suc d))) (partnered-last ts (with_partner k range line p) o.number (later 0) e)
    ∙ (fill-append os (λ d. later (suc d)) ts (with_partner k range line (later 0) ∷ []) h
    ∙ ap (λ us. us ++ with_partner k range line (later 0) ∷ [])
    (fill_same os (λ d. later (suc d)) f ts same))

pub fill_role : (r : Role) (os : List OpenBracket) (n : ℕ) (later : ℕ → Option ℕ) (ts : List Token) (k : TokenKind)
    (range : Range) (line v : Bool) → n ≡ length ts → Below n os
    → fill (scan.pushed r n v (scan.left_of r os)) later
    (scan.joined (scan.closed_of r os) n ts ++ scan.token_with k range line r (scan.closed_of r os) ∷ [])
    ≡ fill os (λ d. closer_by d r n later) ts ++ with_partner k range line (partner_by r os later) ∷ []
unfolding fill closer_by partner_by scan.pushed scan.left_of scan.joined scan.closed_of scan.numbered
fill_role (Opens j) os n later ts k range line v e h =
    fill_open os (record { kind = j; number = n; headed = v }) later (λ d. closer_by d (Opens j) n later) ts k range
    line
    None e (subst (λ (m : ℕ). Below m os) e h) (opens_later n j later)
fill_role (Closes j) [] n later ts k range line v e h = refl
fill_role (Closes j) (o ∷ os) n later ts k range line v e h =
    fill-append os later (scan.partnered ts o.number (Some n)) _
    (subst (λ (m : ℕ). Below m os) (e ∙ sym (length-partnered ts o.number (Some n))) h.1)
fill_role Continues [] n later ts k range line v e h =
    fill_open [] (record { kind = Template; number = n; headed = v }) later (λ d. later (suc d)) ts k range line
    None e tt (λ d. refl)
fill_role Continues (o ∷ os) n later ts k range line v e h =
    let size : n ≡ length (scan.partnered ts o.number (Some n)) = e ∙ sym (length-partnered ts o.number (Some n)) in
    fill_open os (record { kind = Template; number = n; headed = v }) later (λ d. later (suc d))
    (scan.partnered ts o.number (Some n)) k range line None size (subst (λ (m : ℕ). Below m os) size h.1) (λ d. refl)
fill_role Plain os n later ts k range line v e h =
    fill-append os later ts _ (subst (λ (m : ℕ). Below m os) e h)
    ∙ ap (λ us. us ++ with_partner k range line None ∷ []) (fill_same os later _ ts (plain_later n later))

pub joined_length : (closed : Option OpenBracket) (n : ℕ) (ts : List Token)
    → length (scan.joined closed n ts) ≡ length ts
unfolding scan.joined
joined_length None n ts = refl
joined_length (Some o) n ts = length-partnered ts o.number (Some n)

-- ---- a write of a partner
partnered_set : (ts : List Token) (i : ℕ) (t : Token) (p : Option ℕ) → slice_get ts i ≡ Some t
    → set ts i (record t { partner = p }) ≡ scan.partnered ts i p
unfolding scan.partnered
partnered_set [] i t p e = cc
partnered_set (u ∷ ts) zero t p e =
    let same : u ≡ t = cc in ap (λ (v : Token). record v { partner = p } ∷ ts) (sym same)
partnered_set (u ∷ ts) (suc i) t p e = ap (λ us. u ∷ us) (partnered_set ts i t p e)

partnered_none : (ts : List Token) (i : ℕ) (p : Option ℕ) → slice_get ts i ≡ None → ts ≡ scan.partnered ts i p
unfolding scan.partnered
partnered_none [] i p e = refl
partnered_none (u ∷ ts) zero p e = cc
partnered_none (u ∷ ts) (suc i) p e = ap (λ us. u ∷ us) (partnered_none ts i p e)

pub joined_some : (closed : Option OpenBracket) (b : OpenBracket) (n : ℕ) (t : Token) (ts us : List Token)
    → closed ≡ Some b → slice_get ts b.number ≡ Some t → us ≡ set ts b.number (record t { partner = Some n })
    → us ≡ scan.joined closed n ts
unfolding scan.joined
joined_some closed b n t ts us c g e = rw c (e ∙ partnered_set ts b.number t (Some n) g)

pub joined_none : (closed : Option OpenBracket) (b : OpenBracket) (n : ℕ) (ts : List Token)
    → closed ≡ Some b → slice_get ts b.number ≡ None → ts ≡ scan.joined closed n ts
unfolding scan.joined
joined_none closed b n ts c g = rw c (partnered_none ts b.number (Some n) g)
