-- What a range cuts from a module's text: a comment never, and a literal only one that imports.
use Rattle.std.proofs.Common.{◌≡◌, ◌∙◌, refl, sym, ap, subst, ℕ, ◌-◌, ◌<◌, ◌≤◌, ◌^◌, ◌==◌, Bool, true, false, List, [], ◌∷◌, ◌++◌, take, drop, append_assoc, arith, slice_range, take-append-drop}
use Rattle.std.proofs.lemmas.Bool.{eqb-true}
use Rattle.es_literal.specs.spelling.Units.{concat}
use Rattle.es_literal.specs.Strings.{is_quote, is_plain, IsUnit, plain, single, two, four, braced, return, return_feed, AreUnits, IsString}
use Rattle.es_token.specs.declared.token.Token.{Token}
use Rattle.es_token.specs.declared.token.Comment.{Comment}
use Rattle.es_token.specs.declared.token.CommentKind.{CommentKind}
use Rattle.es_token.specs.declared.token.CommentKind.TheVariants.{Line, Block}
use Rattle.es_lexer.specs.Pieces.{comment_spelling}
use Rattle.es_lexer.specs.Reads.{Reads}
use Rattle.es_lexer.proofs.Theorems.{reads_comment}
use Rattle.made_bundle.specs.Made.{module_text}
use Rattle.made_laws.proofs.Scan.{Each, each_append, IsInner}
use Rattle.made_laws.proofs.Lines.{Imports, module_literals}
use Rattle.made_laws.proofs.Bytes.{each_split, IsClean, is_clean, clean_module, AreSafe, safe_module, behind_slash}

-- the text about a slice
pub about_slice : (text : List ℕ) (a b : ℕ)
    → text ≡ take a text ++ (slice_range text a b ++ drop (b - a) (drop a text))
about_slice text a b =
    sym (take-append-drop a text)
    ∙ ap (λ (x : List ℕ). take a text ++ x) (sym (take-append-drop (b - a) (drop a text)))

-- ---- comments

no_spelling : (count i : ℕ) → i < count → count < 2 ^ 62 → (a b : ℕ) (kind : CommentKind) (s : List ℕ)
    → slice_range (module_text count i) a b ≡ comment_spelling kind s → ⊥
unfolding comment_spelling
no_spelling count i below few a b kind s is =
    let text = module_text count i in
    by kind (about_slice text a b
    ∙ ap (λ (x : List ℕ). take a text ++ (x ++ drop (b - a) (drop a text))) is)
  where
    low : (x : ℕ) (p r : List ℕ) → x < 48 → module_text count i ≡ p ++ 47 ∷ x ∷ r → ⊥
    low x p r small e =
        let high : 48 ≤ x = behind_slash p x r (subst AreSafe e (safe_module count i below few)) in
        omega (arith, high, small)

    by : (k : CommentKind)
        → module_text count i ≡ take a (module_text count i)
        ++ (comment_spelling k s ++ drop (b - a) (drop a (module_text count i))) → ⊥
    by Line e = low 47 _ _ (omega arith) e
    by Block e = low 42 _ _ (omega arith) e

pub no_comments : (count i : ℕ) (tokens : List Token) (comments : List Comment) → i < count → count < 2 ^ 62
    → Reads (module_text count i) tokens comments → comments ≡ []
no_comments count i tokens [] below few reads = refl
no_comments count i tokens (c ∷ comments) below few reads =
    absurd (no_spelling count i below few c.range.start c.range.end c.kind c.text
    (reads_comment (module_text count i) tokens (c ∷ comments) 0 c reads refl))

-- ---- literals

no_escape : (b : ℕ) (rest : List ℕ) → b ≡ 92 → Each IsClean (b ∷ rest) → ⊥
no_escape b rest e h = let bad : is_clean 92 ≡ true = subst (λ (x : ℕ). is_clean x ≡ true) e h.0 in cc

-- a clean unit is one plain byte
plain_unit : (u after : List ℕ) → IsUnit 34 u after → Each IsClean u → Each IsInner u
unfolding is_plain
plain_unit u after (plain b p is) h = subst (Each IsInner) (sym is) (inner b p, tt)
  where
    inner : (x : ℕ) → is_plain 34 x ≡ true → IsInner x
    inner x p = (
      λ e. let bad : is_plain 34 34 ≡ true = subst (λ (n : ℕ). is_plain 34 n ≡ true) e p in let worse : ⊥ = cc in worse,
      λ e. let bad : is_plain 34 10 ≡ true = subst (λ (n : ℕ). is_plain 34 n ≡ true) e p in let worse : ⊥ = cc in worse,
    )
plain_unit u after (single b p is) h = absurd (no_escape 92 (b ∷ []) refl (subst (Each IsClean) is h))
plain_unit u after (two c d p q is) h = absurd (no_escape 92 (120 ∷ c ∷ d ∷ []) refl (subst (Each IsClean) is h))
plain_unit u after (four c d e f p q r s is) h =
    absurd (no_escape 92 (117 ∷ c ∷ d ∷ e ∷ f ∷ []) refl (subst (Each IsClean) is h))
plain_unit u after (braced d digits p q is) h =
    absurd (no_escape 92 (117 ∷ 123 ∷ d ∷ (digits ++ 125 ∷ [])) refl (subst (Each IsClean) is h))
plain_unit u after (return p is) h = absurd (no_escape 92 (13 ∷ []) refl (subst (Each IsClean) is h))
plain_unit u after (return_feed is) h = absurd (no_escape 92 (13 ∷ 10 ∷ []) refl (subst (Each IsClean) is h))

plain_units : (units : List (List ℕ)) (after : List ℕ) → AreUnits 34 units after → Each IsClean (concat units)
    → Each IsInner (concat units)
plain_units [] after are h = tt
plain_units (u ∷ units) after are h =
    let parts = each_split IsClean u (concat units) h in
    each_append IsInner u (concat units) (plain_unit u (concat units ++ after) are.0 parts.0)
    (plain_units units after are.1 parts.1)

-- a literal of a module's text, between its quotes
pub record Literal (count : ℕ) (cut : List ℕ) : Type 0 where
  pub inner : List ℕ
  pub imports : Imports count inner
  pub is : cut ≡ 34 ∷ (inner ++ 34 ∷ [])

pub literal_of : (count i : ℕ) (cut before after : List ℕ) → i < count → count < 2 ^ 62
    → module_text count i ≡ before ++ (cut ++ after) → IsString cut → Literal count cut
unfolding is_quote
literal_of count i cut before after below few whole s = by (s.quote == 34) (s.quote == 39) refl refl
  where
    clean : Each IsClean cut
    clean =
        let all = subst (Each IsClean) whole (clean_module count i below few) in
        (each_split IsClean cut after (each_split IsClean before (cut ++ after) all).1).0

    double : s.quote ≡ 34 → Literal count cut
    double is =
        let same : cut ≡ 34 ∷ (concat s.units ++ 34 ∷ []) =
        s.whole ∙ ap (λ (q : ℕ). q ∷ (concat s.units ++ q ∷ [])) is in
        let inside = (each_split IsClean (concat s.units) (34 ∷ []) (subst (Each IsClean) same clean).1).0 in
        let units = subst (λ (q : ℕ). AreUnits q s.units (q ∷ [])) is s.each in
        let inner = plain_units s.units (34 ∷ []) units inside in
        record {
          inner = concat s.units;
          imports = module_literals count i (concat s.units) below few inner (record {
            before = before;
            after = after;
            whole = whole ∙ ap (λ (x : List ℕ). before ++ (x ++ after)) same
                ∙ ap (λ (x : List ℕ). before ++ 34 ∷ x) (append_assoc (concat s.units) (34 ∷ []) after);
          });
          is = same;
        }

    by : (d q : Bool) → (s.quote == 34) ≡ d → (s.quote == 39) ≡ q → Literal count cut
    by true q e f = double (eqb-true s.quote 34 e)
    by false true e f =
        absurd (let is : s.quote ≡ 39 = eqb-true s.quote 39 f in
        let all = subst (Each IsClean) (s.whole ∙ ap (λ (x : ℕ). x ∷ (concat s.units ++ x ∷ [])) is) clean in
        let bad : is_clean 39 ≡ true = all.0 in let worse : ⊥ = cc in worse)
    by false false e f = absurd (let bad : is_quote s.quote ≡ false = rw (e, f) refl in
        let worse : false ≡ true = sym bad ∙ s.quotes in let none : ⊥ = cc in none)
