-- The partner of an opening bracket has it for its partner.
use Rattle.std.proofs.Common.{◌≡◌, ℕ, zero, suc, ◌+◌, List, [], ◌∷◌, Option, Some, slice_get, refl, sym, ◌∙◌, ap, subst, arith}
use Rattle.es_lexer.specs.declared.bracket.BracketKind.{BracketKind}
use Rattle.es_lexer.specs.declared.bracket.Role.{Role}
use Rattle.es_lexer.specs.declared.bracket.Role.TheVariants.{Opens, Closes, Continues, Plain}
use Rattle.es_token.specs.declared.token.Token.{Token}
use Rattle.es_token.specs.declared.token.TokenKind.{TokenKind}
use Rattle.es_lexer.specs.Brackets.{role_of}
use Rattle.es_lexer.specs.Pieces.{Piece, blank, line_end, comment, token, Open, count_of, open_at, open_behind, number_of, closer_at, closer_by, partner_of}
use Rattle.es_lexer.specs.Reads.{tokens_of, token_of}

-- a token of this role closes the bracket that is opened by the token of this number
abbrev pub ClosesBack : Role → Option ℕ → ℕ → Type 0
ClosesBack (Opens k) partner number = ⊥
ClosesBack (Closes k) partner number = partner ≡ Some number
ClosesBack Continues partner number = Unit {0}
ClosesBack Plain partner number = ⊥

-- among tokens of which the first has the number `first`, the token of this number closes that bracket
pub record ClosedBy (ts : List Token) (first number opener : ℕ) : Type 0 where
  pub place : ℕ
  pub is : number ≡ first + place
  pub found : Token
  pub here : slice_get ts place ≡ Some found
  pub closes : ClosesBack (role_of found.kind) found.partner opener

closed_here : (k : TokenKind) (s : List ℕ) (before ps : List Piece) (o : Open) (number : ℕ) (r : Role)
    → role_of k ≡ r → ClosesBack r (partner_of r before ps) (count_of o.before) → count_of before ≡ number
    → ClosedBy (token_of before k s ps ∷ tokens_of (token k s ∷ before) ps) (count_of before) number
    (count_of o.before)
closed_here k s before ps o number r e c n = record {
  place = 0;
  is = omega arith;
  found = token_of before k s ps;
  here = refl;
  closes = subst (λ (q : Role). ClosesBack q (partner_of q before ps) (count_of o.before)) (sym e) c;
}

closed_later : (t : Token) (ts : List Token) (first number opener : ℕ) → ClosedBy ts (first + 1) number opener
    → ClosedBy (t ∷ ts) first number opener
closed_later t ts first number opener c = record {
  place = suc c.place;
  is = let e : number ≡ first + 1 + c.place = c.is in omega arith;
  found = c.found;
  here = c.here;
  closes = c.closes;
}

closer_is : (before ps : List Piece) (o : Open) → open_at 0 before ≡ Some o
    → number_of (open_at 0 before) ≡ Some (count_of o.before)
closer_is before ps o e = ap number_of e

-- the search behind these pieces goes on behind the token too
abbrev pub SearchesOn : List Piece → List Piece → Open → ℕ → Type 0
SearchesOn before ps o number = (d : ℕ) → open_at d before ≡ Some o → closer_at d (count_of before) ps ≡ Some number
    → ClosedBy (tokens_of before ps) (count_of before) number (count_of o.before)

role_search : (r : Role) (k : TokenKind) (s : List ℕ) (before ps : List Piece) (o : Open) (number d : ℕ)
    → role_of k ≡ r → ((e : ℕ) → open_behind e r before (λ i. open_at i before) ≡ Some o
    → closer_at e (count_of before + 1) ps ≡ Some number
    → ClosedBy (tokens_of (token k s ∷ before) ps) (count_of before + 1) number (count_of o.before))
    → open_at d before ≡ Some o
    → closer_by d r (count_of before) (λ e. closer_at e (count_of before + 1) ps) ≡ Some number
    → ClosedBy (token_of before k s ps ∷ tokens_of (token k s ∷ before) ps) (count_of before) number
    (count_of o.before)
unfolding closer_by open_behind partner_of
role_search (Opens j) k s before ps o number zero r go e c =
    closed_later _ _ (count_of before) number (count_of o.before) (go 1 e c)
role_search (Opens j) k s before ps o number (suc d) r go e c =
    closed_later _ _ (count_of before) number (count_of o.before) (go (suc (suc d)) e c)
role_search (Closes j) k s before ps o number zero r go e c =
    closed_here k s before ps o number (Closes j) r (ap number_of e) (let q : count_of before ≡ number = cc in q)
role_search (Closes j) k s before ps o number (suc zero) r go e c =
    closed_later _ _ (count_of before) number (count_of o.before) (go 0 e c)
role_search (Closes j) k s before ps o number (suc (suc d)) r go e c =
    closed_later _ _ (count_of before) number (count_of o.before) (go (suc d) e c)
role_search Continues k s before ps o number zero r go e c =
    closed_here k s before ps o number Continues r tt (let q : count_of before ≡ number = cc in q)
role_search Continues k s before ps o number (suc d) r go e c =
    closed_later _ _ (count_of before) number (count_of o.before) (go (suc d) e c)
role_search Plain k s before ps o number zero r go e c =
    closed_later _ _ (count_of before) number (count_of o.before) (go 0 e c)
role_search Plain k s before ps o number (suc d) r go e c =
    closed_later _ _ (count_of before) number (count_of o.before) (go (suc d) e c)

pub search_on : (ps before : List Piece) (o : Open) (number : ℕ) → SearchesOn before ps o number
unfolding tokens_of open_at closer_at count_of
search_on [] before o number d e c = cc
search_on (blank s ∷ ps) before o number d e c = search_on ps (blank s ∷ before) o number d e c
search_on (line_end s ∷ ps) before o number d e c = search_on ps (line_end s ∷ before) o number d e c
search_on (comment q t ∷ ps) before o number d e c = search_on ps (comment q t ∷ before) o number d e c
search_on (token k s ∷ ps) before o number d e c =
    role_search (role_of k) k s before ps o number d refl (search_on ps (token k s ∷ before) o number) e c

-- the token at a place among tokens, as an opening bracket
opener_by : (r : Role) (k : TokenKind) (s : List ℕ) (before ps : List Piece) (number : ℕ) (j : BracketKind)
    → role_of k ≡ r → r ≡ Opens j → partner_of r before ps ≡ Some number
    → ClosedBy (tokens_of (token k s ∷ before) ps) (count_of before + 1) number (count_of before)
unfolding partner_of count_of open_at open_behind
opener_by (Opens i) k s before ps number j r e p =
    search_on ps (token k s ∷ before) (record { kind = i; before = before }) number 0 (rw r refl) p
opener_by (Closes i) k s before ps number j r e p = cc
opener_by Continues k s before ps number j r e p = cc
opener_by Plain k s before ps number j r e p = cc

pub opener_back : (ps before : List Piece) (n m : ℕ) (t : Token) (j : BracketKind)
    → slice_get (tokens_of before ps) n ≡ Some t → role_of t.kind ≡ Opens j → t.partner ≡ Some m
    → ClosedBy (tokens_of before ps) (count_of before) m (count_of before + n)
unfolding tokens_of count_of
opener_back [] before n m t j g r p = cc
opener_back (blank s ∷ ps) before n m t j g r p = opener_back ps (blank s ∷ before) n m t j g r p
opener_back (line_end s ∷ ps) before n m t j g r p = opener_back ps (line_end s ∷ before) n m t j g r p
opener_back (comment q s ∷ ps) before n m t j g r p = opener_back ps (comment q s ∷ before) n m t j g r p
opener_back (token k s ∷ ps) before zero m t j g r p =
    let same : token_of before k s ps ≡ t = cc in
    let role : role_of k ≡ Opens j = ap (λ (v : Token). role_of v.kind) same ∙ r in
    let partner : partner_of (role_of k) before ps ≡ Some m = ap (λ (v : Token). v.partner) same ∙ p in
    subst (λ (i : ℕ). ClosedBy (token_of before k s ps ∷ tokens_of (token k s ∷ before) ps) (count_of before) m i)
    (let q : count_of before ≡ count_of before + 0 = omega arith in q)
    (closed_later (token_of before k s ps) (tokens_of (token k s ∷ before) ps) (count_of before) m (count_of before)
    (opener_by (role_of k) k s before ps m j refl role partner))
opener_back (token k s ∷ ps) before (suc n) m t j g r p =
    subst (λ (i : ℕ). ClosedBy (token_of before k s ps ∷ tokens_of (token k s ∷ before) ps) (count_of before) m i)
    (let q : count_of before + 1 + n ≡ count_of before + suc n = omega arith in q)
    (closed_later (token_of before k s ps) (tokens_of (token k s ∷ before) ps) (count_of before) m
    (count_of before + 1 + n) (opener_back ps (token k s ∷ before) n m t j g r p))
