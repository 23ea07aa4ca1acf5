-- Partners among the tokens of pieces.
use Rattle.std.proofs.Common.{◌≡◌, ℕ, zero, suc, ◌+◌, ◌<◌, ◌≤◌, List, [], ◌∷◌, Option, Some, None, slice_get, refl, sym, ◌∙◌, ap, subst, arith, ◌⊎◌, inl, inr}
use Rattle.es_lexer.specs.declared.bracket.BracketKind.{BracketKind}
use Rattle.es_lexer.specs.declared.bracket.BracketKind.TheVariants.{Template}
use Rattle.es_lexer.specs.declared.bracket.Role.{Role}
use Rattle.es_lexer.specs.declared.bracket.Role.TheVariants.{Opens, Closes, Continues, Plain}
use Rattle.es_token.specs.declared.token.Token.{Token}
use Rattle.es_token.specs.declared.token.CommentKind.{CommentKind}
use Rattle.es_token.specs.declared.token.TokenKind.{TokenKind}
use Rattle.es_lexer.specs.Brackets.{role_of}
use Rattle.es_lexer.specs.Pieces.{Piece, blank, line_end, comment, token, Open, count_of, open_at, open_behind, number_of, closer_at, closer_by, partner_of}
use Rattle.es_lexer.specs.Reads.{tokens_of, token_of}
use Rattle.es_law_tokens.specs.brackets.Partners.{Begins}
use Rattle.es_law_tokens.proofs.brackets.OpenLemmas.{open_below, open_outer, closer_from, closer_later}

-- ---- between a bracket and what closes it
-- the partner `j` lies behind the bracket `o` and before its closer `m`
abbrev pub Within : Open → ℕ → ℕ → Type 0
Within o j m = (count_of o.before < j) × (j < m)

none_left : (number m : ℕ) → Some number ≡ Some m → number < m → ⊥
none_left number m e l = let same : number ≡ m = cc in omega arith

number_by : (p : Option Open) (j : ℕ) → number_of p ≡ Some j → (o : Open) × (p ≡ Some o) × (count_of o.before ≡ j)
number_by None j e = cc
number_by (Some o) j e = (o, refl, cc)

ahead : (before ps : List Piece) (o : Open) (d e j m : ℕ) → open_at d before ≡ Some o
    → closer_at 0 (count_of before + 1) ps ≡ Some j → closer_at (suc e) (count_of before + 1) ps ≡ Some m → Within o j m
ahead before ps o d e j m f g h =
    let low : count_of o.before < count_of before = open_below before o d f in
    let from : count_of before + 1 ≤ j = closer_from ps j 0 (count_of before + 1) g in
    (omega arith, closer_later ps j m 0 (suc e) (count_of before + 1) (omega arith) g h)

back : (before : List Piece) (o : Open) (d j m : ℕ) → open_at (suc d) before ≡ Some o
    → number_of (open_at 0 before) ≡ Some j → count_of before < m → Within o j m
back before o d j m f g l =
    let found : (p : Open) × (open_at 0 before ≡ Some p) × (count_of p.before ≡ j) = number_by (open_at 0 before) j g in
    let out : count_of o.before < count_of found.0.before =
    open_outer before found.0 o 0 (suc d) (omega arith) found.1 f in
    let low : count_of found.0.before < count_of before = open_below before found.0 0 found.1 in
    let same : count_of found.0.before ≡ j = found.2 in (omega arith, omega arith)

-- the token at the place
here_by : (r : Role) (before ps : List Piece) (o : Open) (d j m : ℕ) → open_at d before ≡ Some o
    → closer_by d r (count_of before) (λ e. closer_at e (count_of before + 1) ps) ≡ Some m
    → partner_of r before ps ≡ Some j → count_of before < m → Within o j m
unfolding closer_by partner_of
here_by (Opens k) before ps o zero j m f g p l = ahead before ps o 0 0 j m f p g
here_by (Opens k) before ps o (suc d) j m f g p l = ahead before ps o (suc d) (suc d) j m f p g
here_by (Closes k) before ps o zero j m f g p l = absurd (none_left (count_of before) m g l)
here_by (Closes k) before ps o (suc d) j m f g p l = back before o d j m f p l
here_by Continues before ps o zero j m f g p l = absurd (none_left (count_of before) m g l)
here_by Continues before ps o (suc d) j m f g p l = ahead before ps o (suc d) d j m f p g
here_by Plain before ps o d j m f g p l = cc

-- behind it
step_by : (r : Role) (before ps : List Piece) (o : Open) (d m : ℕ) (Goal : Type 0)
    → ((e : ℕ) → open_behind e r before (λ i. open_at i before) ≡ Some o
    → closer_at e (count_of before + 1) ps ≡ Some m → Goal)
    → open_at d before ≡ Some o
    → closer_by d r (count_of before) (λ e. closer_at e (count_of before + 1) ps) ≡ Some m → count_of before < m → Goal
unfolding closer_by open_behind
step_by (Opens k) before ps o zero m Goal go f g l = go 1 f g
step_by (Opens k) before ps o (suc d) m Goal go f g l = go (suc (suc d)) f g
step_by (Closes k) before ps o zero m Goal go f g l = absurd (none_left (count_of before) m g l)
step_by (Closes k) before ps o (suc zero) m Goal go f g l = go 0 f g
step_by (Closes k) before ps o (suc (suc d)) m Goal go f g l = go (suc d) f g
step_by Continues before ps o zero m Goal go f g l = absurd (none_left (count_of before) m g l)
step_by Continues before ps o (suc d) m Goal go f g l = go (suc d) f g
step_by Plain before ps o zero m Goal go f g l = go 0 f g
step_by Plain before ps o (suc d) m Goal go f g l = go (suc d) f g

walk : (ps before : List Piece) (o : Open) (d m i j : ℕ) (u : Token) → open_at d before ≡ Some o
    → closer_at d (count_of before) ps ≡ Some m → slice_get (tokens_of before ps) i ≡ Some u → u.partner ≡ Some j
    → count_of before + i < m → Within o j m
unfolding tokens_of open_at closer_at count_of
walk [] before o d m i j u f g w p l = cc
walk (blank s ∷ ps) before o d m i j u f g w p l = walk ps (blank s ∷ before) o d m i j u f g w p l
walk (line_end s ∷ ps) before o d m i j u f g w p l = walk ps (line_end s ∷ before) o d m i j u f g w p l
walk (comment q t ∷ ps) before o d m i j u f g w p l = walk ps (comment q t ∷ before) o d m i j u f g w p l
walk (token k s ∷ ps) before o d m zero j u f g w p l =
    let same : token_of before k s ps ≡ u = cc in
    here_by (role_of k) before ps o d j m f g (ap (λ (v : Token). v.partner) same ∙ p) (omega arith)
walk (token k s ∷ ps) before o d m (suc i) j u f g w p l =
    step_by (role_of k) before ps o d m (Within o j m)
    (λ e h c. walk ps (token k s ∷ before) o e m i j u h c w p (omega arith)) f g (omega arith)

begins_by : (r : Role) (k : TokenKind) (s : List ℕ) (before ps : List Piece) (m i j : ℕ) (u : Token) → role_of k ≡ r
    → Begins r → partner_of r before ps ≡ Some m → slice_get (tokens_of (token k s ∷ before) ps) i ≡ Some u
    → u.partner ≡ Some j → count_of before + 1 + i < m → (count_of before < j) × (j < m)
unfolding partner_of open_at open_behind count_of
begins_by (Opens q) k s before ps m i j u r b c w p l =
    walk ps (token k s ∷ before) (record { kind = q; before = before }) 0 m i j u (rw r refl) c w p l
begins_by (Closes q) k s before ps m i j u r b c w p l = absurd b
begins_by Continues k s before ps m i j u r b c w p l =
    walk ps (token k s ∷ before) (record { kind = Template; before = before }) 0 m i j u (rw r refl) c w p l
begins_by Plain k s before ps m i j u r b c w p l = absurd b

-- a token between two partners has its partner between them
pub nested : (ps before : List Piece) (n m i j : ℕ) (t u : Token) → slice_get (tokens_of before ps) n ≡ Some t
    → Begins (role_of t.kind) → t.partner ≡ Some m → slice_get (tokens_of before ps) i ≡ Some u → u.partner ≡ Some j
    → n < i → count_of before + i < m → (count_of before + n < j) × (j < m)
unfolding tokens_of count_of
nested [] before n m i j t u f b p g q l h = cc
nested (blank s ∷ ps) before n m i j t u f b p g q l h = nested ps (blank s ∷ before) n m i j t u f b p g q l h
nested (line_end s ∷ ps) before n m i j t u f b p g q l h = nested ps (line_end s ∷ before) n m i j t u f b p g q l h
nested (comment c x ∷ ps) before n m i j t u f b p g q l h =
    nested ps (comment c x ∷ before) n m i j t u f b p g q l h
nested (token k s ∷ ps) before n m zero j t u f b p g q l h = absurd (omega arith)
nested (token k s ∷ ps) before zero m (suc i) j t u f b p g q l h =
    let same : token_of before k s ps ≡ t = cc in
    let role : Begins (role_of k) = subst (λ (v : Token). Begins (role_of v.kind)) (sym same) b in
    let partner : partner_of (role_of k) before ps ≡ Some m = ap (λ (v : Token). v.partner) same ∙ p in
    let r : (count_of before < j) × (j < m) =
    begins_by (role_of k) k s before ps m i j u refl role partner g q (omega arith) in
    let low : count_of before < j = r.0 in (omega arith, r.1)
nested (token k s ∷ ps) before (suc n) m (suc i) j t u f b p g q l h =
    let r : (count_of before + 1 + n < j) × (j < m) =
    nested ps (token k s ∷ before) n m i j t u f b p g q (omega arith) (omega arith) in
    let low : count_of before + 1 + n < j = r.0 in (omega arith, r.1)

-- ---- what a closing token closes
-- among the tokens of which the first has this number, the token of the number `j` begins what `n` closes
pub record BegunHere (ts : List Token) (first j n : ℕ) : Type 0 where
  pub place : ℕ
  pub is : j ≡ first + place
  pub found : Token
  pub here : slice_get ts place ≡ Some found
  pub begins : Begins (role_of found.kind)
  pub partner : found.partner ≡ Some n
  pub low : j < n

-- the bracket is open before these pieces, and they close it
pub record OpenStill (before ps : List Piece) (j n : ℕ) : Type 0 where
  pub depth : ℕ
  pub bracket : Open
  pub there : open_at depth before ≡ Some bracket
  pub is : j ≡ count_of bracket.before
  pub closes : closer_at depth (count_of before) ps ≡ Some n

abbrev pub Origin : List Piece → List Piece → ℕ → ℕ → Type 0
Origin before ps j n = OpenStill before ps j n ⊎ BegunHere (tokens_of before ps) (count_of before) j n

begun_later : (t : Token) (ts : List Token) (first j n : ℕ) → BegunHere ts (first + 1) j n
    → BegunHere (t ∷ ts) first j n
begun_later t ts first j n b = record {
  place = suc b.place;
  is = let e : j ≡ first + 1 + b.place = b.is in omega arith;
  found = b.found;
  here = b.here;
  begins = b.begins;
  partner = b.partner;
  low = b.low;
}

-- what closes a bracket stands behind its beginning
partner_above : (r : Role) (before ps : List Piece) (n : ℕ) → Begins r → partner_of r before ps ≡ Some n
    → count_of before < n
unfolding partner_of
partner_above (Opens k) before ps n b p =
    let l : count_of before + 1 ≤ n = closer_from ps n 0 (count_of before + 1) p in omega arith
partner_above (Closes k) before ps n b p = absurd b
partner_above Continues before ps n b p =
    let l : count_of before + 1 ≤ n = closer_from ps n 0 (count_of before + 1) p in omega arith
partner_above Plain before ps n b p = absurd b

begun_here : (r : Role) (k : TokenKind) (s : List ℕ) (before ps : List Piece) (o : Open) (j n : ℕ) → role_of k ≡ r
    → Begins r → partner_of r before ps ≡ Some n → count_of before ≡ count_of o.before → j ≡ count_of o.before
    → BegunHere (token_of before k s ps ∷ tokens_of (token k s ∷ before) ps) (count_of before) j n
begun_here r k s before ps o j n e b p c i = record {
  place = 0;
  is = omega arith;
  found = token_of before k s ps;
  here = refl;
  begins = subst Begins (sym e) b;
  partner = subst (λ (q : Role). partner_of q before ps ≡ Some n) (sym e) p;
  low = let l : count_of before < n = partner_above r before ps n b p in omega arith;
}

same_open : (kind : BracketKind) (before : List Piece) (o : Open)
    → Some (record { kind = kind; before = before }) ≡ Some o → count_of before ≡ count_of o.before
same_open kind before o e =
    let made : Open = record { kind = kind; before = before } in
    let same : made ≡ o = cc in ap (λ (p : Open). count_of p.before) same

back_by : (r : Role) (k : TokenKind) (s : List ℕ) (before ps : List Piece) (o : Open) (d j n : ℕ) → role_of k ≡ r
    → open_behind d r before (λ i. open_at i before) ≡ Some o → j ≡ count_of o.before
    → closer_at d (count_of before + 1) ps ≡ Some n
    → ((e : ℕ) → open_at e before ≡ Some o
    → closer_by e r (count_of before) (λ i. closer_at i (count_of before + 1) ps) ≡ Some n
    → Origin before (token k s ∷ ps) j n)
    → BegunHere (token_of before k s ps ∷ tokens_of (token k s ∷ before) ps) (count_of before) j n
    ⊎ Origin before (token k s ∷ ps) j n
unfolding open_behind closer_by partner_of
back_by (Opens q) k s before ps o zero j n r f i c go =
    inl (begun_here (Opens q) k s before ps o j n r tt c (same_open q before o f) i)
back_by (Opens q) k s before ps o (suc zero) j n r f i c go = inr (go 0 f c)
back_by (Opens q) k s before ps o (suc (suc d)) j n r f i c go = inr (go (suc d) f c)
back_by (Closes q) k s before ps o zero j n r f i c go = inr (go 1 f c)
back_by (Closes q) k s before ps o (suc d) j n r f i c go = inr (go (suc (suc d)) f c)
back_by Continues k s before ps o zero j n r f i c go =
    inl (begun_here Continues k s before ps o j n r tt c (same_open Template before o f) i)
back_by Continues k s before ps o (suc d) j n r f i c go = inr (go (suc d) f c)
back_by Plain k s before ps o zero j n r f i c go = inr (go 0 f c)
back_by Plain k s before ps o (suc d) j n r f i c go = inr (go (suc d) f c)

either_here : (before ps : List Piece) (k : TokenKind) (s : List ℕ) (j n : ℕ)
    → BegunHere (token_of before k s ps ∷ tokens_of (token k s ∷ before) ps) (count_of before) j n
    ⊎ Origin before (token k s ∷ ps) j n → Origin before (token k s ∷ ps) j n
unfolding tokens_of
either_here before ps k s j n (inl b) = inr b
either_here before ps k s j n (inr o) = o

token_back : (k : TokenKind) (s : List ℕ) (before ps : List Piece) (j n : ℕ) → Origin (token k s ∷ before) ps j n
    → Origin before (token k s ∷ ps) j n
unfolding tokens_of open_at closer_at count_of
token_back k s before ps j n (inl o) =
    either_here before ps k s j n
    (back_by (role_of k) k s before ps o.bracket o.depth j n refl o.there o.is o.closes
    (λ e f c. inl (record { depth = e; bracket = o.bracket; there = f; is = o.is; closes = c })))
token_back k s before ps j n (inr b) =
    inr (begun_later (token_of before k s ps) (tokens_of (token k s ∷ before) ps) (count_of before) j n b)

-- the token itself
closes_by : (r : Role) (before ps : List Piece) (q : BracketKind) (j : ℕ) → r ≡ Closes q
    → partner_of r before ps ≡ Some j
    → (o : Open) × (open_at 0 before ≡ Some o) × (count_of o.before ≡ j)
unfolding partner_of
closes_by (Opens k) before ps q j e p = cc
closes_by (Closes k) before ps q j e p = number_by (open_at 0 before) j p
closes_by Continues before ps q j e p = cc
closes_by Plain before ps q j e p = cc

found_closer : (r : Role) (before ps : List Piece) (q : BracketKind) → r ≡ Closes q
    → closer_by 0 r (count_of before) (λ e. closer_at e (count_of before + 1) ps) ≡ Some (count_of before)
unfolding closer_by
found_closer (Opens k) before ps q e = cc
found_closer (Closes k) before ps q e = refl
found_closer Continues before ps q e = cc
found_closer Plain before ps q e = cc

-- gaps and comments hold no token
blank_back : (s : List ℕ) (before ps : List Piece) (j n : ℕ) → Origin (blank s ∷ before) ps j n
    → Origin before (blank s ∷ ps) j n
unfolding tokens_of open_at closer_at count_of
blank_back s before ps j n (inl o) = inl (record {
  depth = o.depth;
  bracket = o.bracket;
  there = o.there;
  is = o.is;
  closes = o.closes;
})
blank_back s before ps j n (inr b) = inr b

line_back : (s : List ℕ) (before ps : List Piece) (j n : ℕ) → Origin (line_end s ∷ before) ps j n
    → Origin before (line_end s ∷ ps) j n
unfolding tokens_of open_at closer_at count_of
line_back s before ps j n (inl o) = inl (record {
  depth = o.depth;
  bracket = o.bracket;
  there = o.there;
  is = o.is;
  closes = o.closes;
})
line_back s before ps j n (inr b) = inr b

comment_back : (c : CommentKind) (x : List ℕ) (before ps : List Piece) (j n : ℕ) → Origin (comment c x ∷ before) ps j n
    → Origin before (comment c x ∷ ps) j n
unfolding tokens_of open_at closer_at count_of
comment_back c x before ps j n (inl o) = inl (record {
  depth = o.depth;
  bracket = o.bracket;
  there = o.there;
  is = o.is;
  closes = o.closes;
})
comment_back c x before ps j n (inr b) = inr b

pub closer_back : (ps before : List Piece) (i j : ℕ) (t : Token) (q : BracketKind)
    → slice_get (tokens_of before ps) i ≡ Some t → role_of t.kind ≡ Closes q → t.partner ≡ Some j
    → Origin before ps j (count_of before + i)
unfolding tokens_of open_at closer_at count_of
closer_back [] before i j t q g r p = cc
closer_back (blank s ∷ ps) before i j t q g r p =
    blank_back s before ps j (count_of before + i) (closer_back ps (blank s ∷ before) i j t q g r p)
closer_back (line_end s ∷ ps) before i j t q g r p =
    line_back s before ps j (count_of before + i) (closer_back ps (line_end s ∷ before) i j t q g r p)
closer_back (comment c x ∷ ps) before i j t q g r p =
    comment_back c x before ps j (count_of before + i) (closer_back ps (comment c x ∷ before) i j t q g r p)
closer_back (token k s ∷ ps) before zero j t q g r p =
    let same : token_of before k s ps ≡ t = cc in
    let role : role_of k ≡ Closes q = ap (λ (v : Token). role_of v.kind) same ∙ r in
    let partner : partner_of (role_of k) before ps ≡ Some j = ap (λ (v : Token). v.partner) same ∙ p in
    let o : (o : Open) × (open_at 0 before ≡ Some o) × (count_of o.before ≡ j) =
    closes_by (role_of k) before ps q j role partner in
    inl (record {
      depth = 0;
      bracket = o.0;
      there = o.1;
      is = sym o.2;
      closes = found_closer (role_of k) before ps q role
          ∙ ap Some (let e : count_of before ≡ count_of before + 0 = omega arith in e);
    })
closer_back (token k s ∷ ps) before (suc i) j t q g r p =
    subst (Origin before (token k s ∷ ps) j)
    (let e : count_of before + 1 + i ≡ count_of before + suc i = omega arith in e)
    (token_back k s before ps j (count_of before + 1 + i) (closer_back ps (token k s ∷ before) i j t q g r p))
