-- Of two brackets that are open, the one further out was opened before, and is closed behind.
use Rattle.std.proofs.Common.{◌≡◌, ℕ, zero, suc, ◌+◌, ◌<◌, ◌≤◌, List, [], ◌∷◌, Option, Some, ap, arith}
use Rattle.es_lexer.specs.declared.bracket.BracketKind.{BracketKind}
use Rattle.es_lexer.specs.declared.bracket.BracketKind.TheVariants.{Template}
use Rattle.es_lexer.specs.declared.bracket.Role.{Role}
use Rattle.es_lexer.specs.declared.bracket.Role.TheVariants.{Opens, Closes, Continues, Plain}
use Rattle.es_lexer.specs.Brackets.{role_of}
use Rattle.es_lexer.specs.Pieces.{Piece, blank, line_end, comment, token, Open, count_of, open_at, open_behind, closer_at, closer_by}

-- ---- what is open was opened before
opened_is : (kind : BracketKind) (before : List Piece) (o : Open)
    → Some (record { kind = kind; before = before }) ≡ Some o → count_of before ≡ count_of o.before
opened_is kind before o e =
    let made : Open = record { kind = kind; before = before } in
    let same : made ≡ o = cc in ap (λ (p : Open). count_of p.before) same

abbrev Below : List Piece → Open → Type 0
Below before o = (d : ℕ) → open_at d before ≡ Some o → count_of o.before < count_of before

below_by : (r : Role) (before : List Piece) (o : Open) (d : ℕ) → Below before o
    → open_behind d r before (λ i. open_at i before) ≡ Some o → count_of o.before < count_of before + 1
unfolding open_behind
below_by (Opens k) before o zero h e = let same : count_of before ≡ count_of o.before = opened_is k before o e in
    omega arith
below_by (Opens k) before o (suc d) h e = let l : count_of o.before < count_of before = h d e in omega arith
below_by (Closes k) before o zero h e = let l : count_of o.before < count_of before = h 1 e in omega arith
below_by (Closes k) before o (suc d) h e =
    let l : count_of o.before < count_of before = h (suc (suc d)) e in omega arith
below_by Continues before o zero h e =
    let same : count_of before ≡ count_of o.before = opened_is Template before o e in omega arith
below_by Continues before o (suc d) h e = let l : count_of o.before < count_of before = h (suc d) e in omega arith
below_by Plain before o zero h e = let l : count_of o.before < count_of before = h 0 e in omega arith
below_by Plain before o (suc d) h e = let l : count_of o.before < count_of before = h (suc d) e in omega arith

pub open_below : (before : List Piece) (o : Open) → Below before o
unfolding open_at count_of
open_below [] o d e = cc
open_below (blank s ∷ before) o d e = open_below before o d e
open_below (line_end s ∷ before) o d e = open_below before o d e
open_below (comment q t ∷ before) o d e = open_below before o d e
open_below (token k s ∷ before) o d e = below_by (role_of k) before o d (open_below before o) e

-- ---- further out is opened before
abbrev Outer : List Piece → Open → Open → Type 0
Outer before o p = (a b : ℕ) → a < b → open_at a before ≡ Some o → open_at b before ≡ Some p
    → count_of p.before < count_of o.before

outer_by : (r : Role) (before : List Piece) (o p : Open) (a b : ℕ) → Outer before o p → Below before p → a < b
    → open_behind a r before (λ i. open_at i before) ≡ Some o → open_behind b r before (λ i. open_at i before) ≡ Some p
    → count_of p.before < count_of o.before
unfolding open_behind
outer_by r before o p a zero h w l e f = absurd (omega arith)
outer_by (Opens k) before o p zero (suc b) h w l e f =
    let same : count_of before ≡ count_of o.before = opened_is k before o e in
    let under : count_of p.before < count_of before = w b f in omega arith
outer_by (Opens k) before o p (suc a) (suc b) h w l e f = h a b (omega arith) e f
outer_by (Closes k) before o p zero (suc b) h w l e f = h 1 (suc (suc b)) (omega arith) e f
outer_by (Closes k) before o p (suc a) (suc b) h w l e f = h (suc (suc a)) (suc (suc b)) (omega arith) e f
outer_by Continues before o p zero (suc b) h w l e f =
    let same : count_of before ≡ count_of o.before = opened_is Template before o e in
    let under : count_of p.before < count_of before = w (suc b) f in omega arith
outer_by Continues before o p (suc a) (suc b) h w l e f = h (suc a) (suc b) l e f
outer_by Plain before o p zero (suc b) h w l e f = h 0 (suc b) l e f
outer_by Plain before o p (suc a) (suc b) h w l e f = h (suc a) (suc b) l e f

pub open_outer : (before : List Piece) (o p : Open) → Outer before o p
unfolding open_at
open_outer [] o p a b l e f = cc
open_outer (blank s ∷ before) o p a b l e f = open_outer before o p a b l e f
open_outer (line_end s ∷ before) o p a b l e f = open_outer before o p a b l e f
open_outer (comment q t ∷ before) o p a b l e f = open_outer before o p a b l e f
open_outer (token k s ∷ before) o p a b l e f =
    outer_by (role_of k) before o p a b (open_outer before o p) (open_below before p) l e f

-- ---- what is closed is closed behind
abbrev From : List Piece → ℕ → Type 0
From ps j = (d number : ℕ) → closer_at d number ps ≡ Some j → number ≤ j

from_by : (r : Role) (ps : List Piece) (d number j : ℕ) → From ps j
    → closer_by d r number (λ e. closer_at e (number + 1) ps) ≡ Some j → number ≤ j
unfolding closer_by
from_by (Opens k) ps zero number j h e = let l : number + 1 ≤ j = h 1 (number + 1) e in omega arith
from_by (Opens k) ps (suc d) number j h e =
    let l : number + 1 ≤ j = h (suc (suc d)) (number + 1) e in omega arith
from_by (Closes k) ps zero number j h e = let same : number ≡ j = cc in omega arith
from_by (Closes k) ps (suc d) number j h e = let l : number + 1 ≤ j = h d (number + 1) e in omega arith
from_by Continues ps zero number j h e = let same : number ≡ j = cc in omega arith
from_by Continues ps (suc d) number j h e = let l : number + 1 ≤ j = h (suc d) (number + 1) e in omega arith
from_by Plain ps zero number j h e = let l : number + 1 ≤ j = h 0 (number + 1) e in omega arith
from_by Plain ps (suc d) number j h e = let l : number + 1 ≤ j = h (suc d) (number + 1) e in omega arith

pub closer_from : (ps : List Piece) (j : ℕ) → From ps j
unfolding closer_at
closer_from [] j d number e = cc
closer_from (blank s ∷ ps) j d number e = closer_from ps j d number e
closer_from (line_end s ∷ ps) j d number e = closer_from ps j d number e
closer_from (comment q t ∷ ps) j d number e = closer_from ps j d number e
closer_from (token k s ∷ ps) j d number e = from_by (role_of k) ps d number j (closer_from ps j) e

-- ---- further out is closed later
abbrev Later : List Piece → ℕ → ℕ → Type 0
Later ps j m = (a b number : ℕ) → a < b → closer_at a number ps ≡ Some j → closer_at b number ps ≡ Some m → j < m

later_by : (r : Role) (ps : List Piece) (a b number j m : ℕ) → Later ps j m → From ps m → a < b
    → closer_by a r number (λ e. closer_at e (number + 1) ps) ≡ Some j
    → closer_by b r number (λ e. closer_at e (number + 1) ps) ≡ Some m → j < m
unfolding closer_by
later_by r ps a zero number j m h w l e f = absurd (omega arith)
later_by (Opens k) ps zero (suc b) number j m h w l e f = h 1 (suc (suc b)) (number + 1) (omega arith) e f
later_by (Opens k) ps (suc a) (suc b) number j m h w l e f =
    h (suc (suc a)) (suc (suc b)) (number + 1) (omega arith) e f
later_by (Closes k) ps zero (suc b) number j m h w l e f =
    let same : number ≡ j = cc in
    let far : number + 1 ≤ m = w b (number + 1) f in omega arith
later_by (Closes k) ps (suc a) (suc b) number j m h w l e f = h a b (number + 1) (omega arith) e f
later_by Continues ps zero (suc b) number j m h w l e f =
    let same : number ≡ j = cc in
    let far : number + 1 ≤ m = w (suc b) (number + 1) f in omega arith
later_by Continues ps (suc a) (suc b) number j m h w l e f = h (suc a) (suc b) (number + 1) l e f
later_by Plain ps zero (suc b) number j m h w l e f = h 0 (suc b) (number + 1) l e f
later_by Plain ps (suc a) (suc b) number j m h w l e f = h (suc a) (suc b) (number + 1) l e f

pub closer_later : (ps : List Piece) (j m : ℕ) → Later ps j m
unfolding closer_at
closer_later [] j m a b number l e f = cc
closer_later (blank s ∷ ps) j m a b number l e f = closer_later ps j m a b number l e f
closer_later (line_end s ∷ ps) j m a b number l e f = closer_later ps j m a b number l e f
closer_later (comment q t ∷ ps) j m a b number l e f = closer_later ps j m a b number l e f
closer_later (token k s ∷ ps) j m a b number l e f =
    later_by (role_of k) ps a b number j m (closer_later ps j m) (closer_from ps m) l e f
