-- A source with its new literals: it is read as the old one is, and its sites are the old ones, moved, with the new
-- literals.
use Rattle.std.proofs.Common.{◌≡◌, ◌∙◌, refl, sym, ap, subst, ℕ, suc, ◌+◌, ◌-◌, Bool, true, false, List, [], ◌∷◌, ◌++◌, map, length, take, drop, slice_get, Some, None, IsUtf8, IsCharBoundary, arith, inl, inr}
use Rattle.std.specs.Prelude.{All, chars, encode_utf8_all, slice_range, option_map, ◌&&◌, nat_le, Ok, Err, if◌then◌else◌}
use Rattle.std.specs.List.{AllByRecursion, flat_map}
use Rattle.std.proofs.lemmas.List.Elements.{All-head, All-tail}
use Rattle.std.proofs.lemmas.List.{append_assoc}
use Rattle.std.proofs.lemmas.Str.{IsUtf8-append, IsUtf8-nil, IsUtf8-drop, IsUtf8-between, IsCharBoundary-start, scalars-chars}
use Rattle.std.proofs.lemmas.Bool.{leb-true}
use Rattle.std.proofs.lemmas.Bool.Decides.{nat_tests}
use lib.Utf8.{scalar, scalars}
use Rattle.base.specs.declared.range.Range.{Range}
use Rattle.es_literal.specs.Strings.{IsString}
use Rattle.es_literal.specs.Values.{value_of}
use Rattle.es_literal.specs.Quotes.{escaped, quoted}
use Rattle.es_literal.proofs.QuoteLemmas.{quoted_string, text_value}
use Rattle.es_token.specs.declared.token.Token.{Token}
use Rattle.es_token.specs.declared.token.Comment.{Comment}
use Rattle.es_token.specs.declared.token.TokenKind.TheVariants.{Str}
use Rattle.es_lexer.specs.Reads.{Reads}
use Rattle.es_lexer.proofs.Theorems.{reads_boundary}
use Rattle.grammar_theory.specs.declared.error.Lang.{Lang}
use Rattle.grammar_theory.specs.declared.error.Mode.{Mode}
use Rattle.es_ast.specs.declared.ast.Program.{Program}
use Rattle.es_site.specs.declared.site.Attribute.{Attribute}
use Rattle.es_site.specs.declared.site.Site.{Site}
use Rattle.es_site.specs.declared.site.DependencyKind.{DependencyKind}
use Rattle.es_site.specs.declared.site.DependencyKind.TheVariants.{ReferencePath, ReferenceTypes}
use Rattle.es_site.specs.Sites.{CutsLiteral, sites_of}
use Rattle.es_lowering.specs.derives.Derives.{Derives}
use Rattle.es_references.specs.References.{references_of}
use Rattle.es_law_texts.proofs.sites.Theorems.{derives_cuts}
use Rattle.es_law_texts.specs.site_order.Order.{StandOn}
use Rattle.es_law_texts.proofs.site_order.Theorems.{derives_stand}
use Rattle.source_text.specs.declared.text_changes.change.TextChange.{TextChange}
use Rattle.source_text.specs.text_changes.Changes.{changed}
use Rattle.es_law_edits.specs.tokens.Moved.{moved, range_to, token_to, comment_to, cut, Replaces, Chosen}
use Rattle.es_law_edits.proofs.tokens.Theorems.{literals_move, reads_only_str, change_stands}
use Rattle.es_law_edits.specs.sites.Moved.{SiteMoves, SitesMove, one, HasRange, AtSites, attributes_of}
use Rattle.es_law_edits.proofs.sites.Theorems.{sites_move, none_derives}
use Rattle.media_type.specs.MediaType.{is_typed}
use Rattle.source_reading.specs.Tree.{language_of, modes_of, IsFirstTree}
use Rattle.source_reading.specs.Read.{IsRead, references_in, HasSites}
use Rattle.specifier_edits.specs.Sites.{is_reference}
use Rattle.specifier_edits.proofs.EditLemmas.{EditsOn, on_chosen}
use Rattle.specifier_edits.proofs.StayLemmas.{references_stay}
use Rattle.specifier_edits.proofs.ReferenceLemmas.{AreReferences, references_are}
use Rattle.graph_entry.specs.declared.entry.Dependency.{Dependency}
use Rattle.graph_entry.specs.declared.entry.JsModule.{JsModule}
use Rattle.graph_entry.specs.Resolution.{Resolved}
use Rattle.graph_vendor.specs.Names.{Entries, Names}
use Rattle.graph_vendor.specs.Refused.{kind_cause, edge_cause, edges_cause, IsSite, AreOfSites}
use Rattle.graph_vendor.specs.Plan.{literal_to, range_or, edit_of}
use Rattle.graph_vendor.specs.vendored.Vendored.{new_literals}
use Rattle.graph_vendor.proofs.vendored.Lists.{both, either}
use Rattle.graph_vendor.proofs.vendored.Entries.{first_free}

-- ---- the new literals are texts

escaped_by : (a b d e : Bool) (c : ℕ) (rest : List ℕ) → scalar c ≡ true → scalars rest ≡ true
    → scalars ((if a then 92 ∷ 34 ∷ [] else (if b then 92 ∷ 92 ∷ [] else (if d then 92 ∷ 110 ∷ []
    else (if e then 92 ∷ 114 ∷ [] else c ∷ [])))) ++ rest) ≡ true
escaped_by true b d e c rest s h = h
escaped_by false true d e c rest s h = h
escaped_by false false true e c rest s h = h
escaped_by false false false true c rest s h = h
escaped_by false false false false c rest s h = ap (λ (x : Bool). x && scalars rest) s ∙ h

all_escaped : (cs rest : List ℕ) → scalars cs ≡ true → scalars rest ≡ true
    → scalars (flat_map escaped cs ++ rest) ≡ true
unfolding escaped
all_escaped [] rest s h = h
all_escaped (c ∷ cs) rest s h =
    let parts = both (scalar c) (scalars cs) s in
    subst (λ (t : List ℕ). scalars t ≡ true) (sym (append_assoc (escaped c) (flat_map escaped cs) rest))
    (escaped_by _ _ _ _ c (flat_map escaped cs ++ rest) parts.0 (all_escaped cs rest parts.1 h))

quoted_utf8 : (cs : List ℕ) → scalars cs ≡ true → IsUtf8 (encode_utf8_all (quoted cs))
unfolding quoted
quoted_utf8 cs s = (quoted cs, (all_escaped cs (34 ∷ []) s refl, refl))

-- ---- the new literals are put in the places of tokens

abbrev pub edits_of : Entries → Names → List Dependency → List TextChange
edits_of entries names ds = map (edit_of entries names) ds

abbrev pub AreTexts : Entries → Names → List Dependency → Type 0
AreTexts entries names ds = AllByRecursion (λ d. IsUtf8 (literal_to entries names d.resolution)) ds

no_change : (entries : Entries) (names : Names) (d : Dependency) (site : Site) → IsSite d site
    → range_or d.range ≡ site.range
no_change entries names d site is = ap range_or is.range

replaces : (entries : Entries) (names : Names) (d : Dependency) (site : Site) (t : Token) → IsSite d site
    → site.range ≡ t.range → t.kind ≡ Str → Replaces t (edit_of entries names d)
replaces entries names d site t is same str =
    let whole : range_or d.range ≡ t.range = no_change entries names d site is ∙ same in
    record {
      literal = str;
      starts = ap (λ (r : Range). r.start) whole;
      ends = ap (λ (r : Range). r.end) whole;
      other = quoted_string (chars (literal_to entries names d.resolution));
    }

edits_on : (entries : Entries) (names : Names) (x : List ℕ) (ts : List Token) (cs : List Comment) (f to : ℕ)
    (ds : List Dependency) (sites : List Site) → Reads x ts cs → AreOfSites ds sites
    → All (λ (s : Site). CutsLiteral x s.range s.value) sites → StandOn ts f to sites
    → EditsOn ts f (edits_of entries names ds)
edits_on entries names x ts cs f to [] sites r are cuts stand = tt
edits_on entries names x ts cs f to (d ∷ ds) [] r are cuts stand = absurd are
edits_on entries names x ts cs f to (d ∷ ds) (site ∷ sites) r are cuts stand =
    let P : Site → Type 0 = λ s. CutsLiteral x s.range s.value in
    let here : CutsLiteral x site.range site.value = All-head P site sites cuts in
    let string : IsString (cut x stand.1.range) = subst (λ (q : Range). IsString (cut x q)) stand.4 here.2 in
    let str : stand.1.kind ≡ Str = reads_only_str x ts cs stand.0 stand.1 r stand.3 string in (
      stand.0,
      stand.1,
      stand.2,
      stand.3,
      replaces entries names d site stand.1 are.0 stand.4 str,
      edits_on entries names x ts cs (stand.0 + 1) to ds sites r are.1 (All-tail P site sites cuts) stand.5,
    )

-- ---- the new text is one

slice_utf8 : (x : List ℕ) (a b : ℕ) → IsUtf8 x → IsCharBoundary x a → IsCharBoundary x b → IsUtf8 (slice_range x a b)
slice_utf8 x a b u from to =
    elim (either (nat_le a b)) [
      | inl le ↦ IsUtf8-between x a b u (leb-true a b le) from to
      | inr over ↦
          let none : b - a ≡ 0 = grind (arith, nat_tests) in
          subst (λ (n : ℕ). IsUtf8 (take n (drop a x))) (sym none) IsUtf8-nil
    ]

changed_utf8 : (entries : Entries) (names : Names) (x : List ℕ) (ts : List Token) (cs : List Comment) (past f : ℕ)
    (ds : List Dependency) → IsUtf8 x → Reads x ts cs → IsCharBoundary x past
    → EditsOn ts f (edits_of entries names ds) → AreTexts entries names ds
    → IsUtf8 (changed x past (edits_of entries names ds))
changed_utf8 entries names x ts cs past f [] u r from on texts = IsUtf8-drop x past u from
changed_utf8 entries names x ts cs past f (d ∷ ds) u r from on texts =
    let places = reads_boundary x ts cs on.0 on.1 u r on.3 in
    let start : IsCharBoundary x (range_or d.range).start = subst (IsCharBoundary x) (sym on.4.starts) places.0 in
    let end : IsCharBoundary x (range_or d.range).end = subst (IsCharBoundary x) (sym on.4.ends) places.1 in
    let literal = literal_to entries names d.resolution in
    let new : IsUtf8 (encode_utf8_all (quoted (chars literal))) =
    quoted_utf8 (chars literal) (scalars-chars literal texts.0) in
    let rest = changed_utf8 entries names x ts cs (range_or d.range).end (on.0 + 1) ds u r end on.5 texts.1 in
    IsUtf8-append (slice_range x past (range_or d.range).start ++ encode_utf8_all (quoted (chars literal)))
    (changed x (range_or d.range).end (edits_of entries names ds))
    (IsUtf8-append (slice_range x past (range_or d.range).start) (encode_utf8_all (quoted (chars literal)))
    (slice_utf8 x past (range_or d.range).start u from start) new) rest

-- ---- it is read in the first mode that read the old one

-- one of the modes derives it
derived_by : (lang : Lang) (x : List ℕ) (ts : List Token) (modes : List Mode) (tree : Program)
    → IsFirstTree lang x ts modes tree → (m : Mode) × Derives lang m x ts tree
derived_by lang x ts [] tree h = absurd h
derived_by lang x ts (m ∷ modes) tree (inl d) = (m, d)
derived_by lang x ts (m ∷ modes) tree (inr h) = derived_by lang x ts modes tree h.1

record FirstMoves (lang : Lang) (x : List ℕ) (ts : List Token) (changes : List TextChange) (modes : List Mode)
    (tree : Program) : Type 0 where
  other : Program
  first : IsFirstTree lang (changed x 0 changes) (map (token_to (moved changes)) ts) modes other
  sites : SitesMove changes (sites_of tree) (sites_of other)
  attributes : AtSites (sites_of tree) changes → attributes_of (sites_of other) ≡ attributes_of (sites_of tree)

first_moves : (lang : Lang) (x : List ℕ) (ts : List Token) (cs : List Comment) (changes : List TextChange)
    (modes : List Mode) (tree : Program) → Reads x ts cs → Chosen ts changes → IsFirstTree lang x ts modes tree
    → FirstMoves lang x ts changes modes tree
first_moves lang x ts cs changes [] tree r c h = absurd h
first_moves lang x ts cs changes (m ∷ modes) tree r c (inl d) =
    let still = sites_move lang m x ts cs changes tree r c d in
    record { other = still.new; first = inl still.derived; sites = still.sites; attributes = still.attributes }
first_moves lang x ts cs changes (m ∷ modes) tree r c (inr h) =
    let rest = first_moves lang x ts cs changes modes tree r c h.1 in
    record {
      other = rest.other;
      first = inr (λ other d. none_derives lang m x ts cs changes other r c h.0 d, rest.first);
      sites = rest.sites;
      attributes = rest.attributes;
    }

refer_same : (typed : Bool) {found other : List Site} → found ≡ other
    → (if typed then found else []) ≡ (if typed then other else [])
refer_same typed e = ap (λ (ss : List Site). if typed then ss else []) e

-- ---- no site stands in a comment

caused : (k : DependencyKind) → is_reference k ≡ true → kind_cause k ≡ None → ⊥
caused ReferencePath refers none = let bad : ⊥ = cc in bad
caused ReferenceTypes refers none = let bad : ⊥ = cc in bad
caused _ refers none = let bad : ⊥ = cc in bad

cause_of_kind : (r : Resolved) (k : DependencyKind) → is_reference k ≡ true → edge_cause r k ≡ None → ⊥
cause_of_kind (Ok url) k refers none = caused k refers none
cause_of_kind (Err fault) k refers none = let bad : ⊥ = cc in bad

are_references : (typed : Bool) (found : List Site) (ts : List Token) (cs : List Comment)
    → found ≡ (if typed then references_of ts cs else []) → AreReferences found
are_references true found ts cs e = subst AreReferences (sym e) (references_are ts cs)
are_references false found ts cs e = subst AreReferences (sym e) tt

no_references : (ds : List Dependency) (references sites : List Site) → AreReferences references
    → AreOfSites ds (references ++ sites) → edges_cause ds ≡ None → references ≡ []
no_references ds [] sites refer are none = refl
no_references [] (r ∷ rs) sites refer are none = absurd are
no_references (d ∷ ds) (r ∷ rs) sites refer are none =
    let refers : is_reference d.kind ≡ true = ap is_reference are.0.kind ∙ refer.0 in
    absurd (cause_of_kind d.resolution d.kind refers (first_free d ds none).0)

-- ---- all changes are of sites

one_site : (entries : Entries) (names : Names) (d : Dependency) (site : Site) (all : List Site) → IsSite d site
    → HasRange all site.range → HasRange all (edit_of entries names d).range
one_site entries names d site all is has_it =
    subst (HasRange all) (sym (no_change entries names d site is)) has_it

at_sites : (entries : Entries) (names : Names) (ds : List Dependency) (sites all : List Site)
    → ((r : Range) → HasRange sites r → HasRange all r) → AreOfSites ds sites → AtSites all (edits_of entries names ds)
at_sites entries names [] sites all within are = tt
at_sites entries names (d ∷ ds) [] all within are = absurd are
at_sites entries names (d ∷ ds) (site ∷ sites) all within are = (
  one_site entries names d site all are.0 (within site.range (inl refl)),
  at_sites entries names ds sites all (λ r h. within r (inr h)) are.1,
)

-- ---- what each site becomes

pub record SiteFor (entries : Entries) (names : Names) (changes : List TextChange) (d : Dependency) (site : Site)
    : Type 0 where
  pub kind : site.kind ≡ d.kind
  pub type_only : site.type_only ≡ d.type_only
  pub range : Some site.range ≡ option_map (range_to (moved changes)) d.range
  pub value : site.value ≡ literal_to entries names d.resolution
  pub attribute : site.attribute ≡ d.attribute

abbrev pub SitesFor : Entries → Names → List TextChange → List Dependency → List Site → Type 0
SitesFor entries names changes [] [] = Unit {0}
SitesFor entries names changes (d ∷ ds) (site ∷ sites) =
    SiteFor entries names changes d site × SitesFor entries names changes ds sites
SitesFor entries names changes _ _ = ⊥

-- the new literal stands where its edge moved to
abbrev StandsAt : List ℕ → List TextChange → TextChange → Type 0
StandsAt y all c = cut y (range_to (moved all) c.range) ≡ c.new_text

each_place : (P : TextChange → Type 0) (cs : List TextChange)
    → ((k : ℕ) (c : TextChange) → slice_get cs k ≡ Some c → P c) → AllByRecursion P cs
each_place P [] h = tt
each_place P (c ∷ cs) h = (h 0 c refl, each_place P cs (λ k d e. h (suc k) d e))

moves_none : (changes : List TextChange) (o : Site) (os : List Site) → SitesMove changes (o ∷ os) [] → ⊥
moves_none changes o os h = elim h [ ]

moves_first : (changes : List TextChange) (o n : Site) (os ns : List Site) → SitesMove changes (o ∷ os) (n ∷ ns)
    → SiteMoves changes o n × SitesMove changes os ns
moves_first changes o n os ns (one old new olds news here rest) = (here, rest)

same_head : {X : Type 0} (x y : X) (xs ys : List X) → x ∷ xs ≡ y ∷ ys → x ≡ y
same_head x y xs ys e = cc

same_tail : {X : Type 0} (x y : X) (xs ys : List X) → x ∷ xs ≡ y ∷ ys → xs ≡ ys
same_tail x y xs ys e = ap (drop 1) e

site_for : (entries : Entries) (names : Names) (y : List ℕ) (all : List TextChange) (d : Dependency) (old new : Site)
    → IsSite d old → SiteMoves all old new → new.attribute ≡ old.attribute → StandsAt y all (edit_of entries names d)
    → CutsLiteral y new.range new.value → IsUtf8 (literal_to entries names d.resolution)
    → SiteFor entries names all d new
site_for entries names y all d old new is move attribute stands cuts text =
    let literal = literal_to entries names d.resolution in
    let place : new.range ≡ range_to (moved all) (range_or d.range) =
    move.range ∙ ap (range_to (moved all)) (sym (no_change entries names d old is)) in
    record {
      kind = move.kind ∙ sym is.kind;
      type_only = move.type_only ∙ sym is.type_only;
      range = ap Some move.range ∙ sym (ap (option_map (range_to (moved all))) is.range);
      value = sym cuts.3 ∙ ap (λ (r : Range). value_of (cut y r)) place ∙ ap value_of stands ∙ text_value literal text;
      attribute = attribute ∙ sym is.attribute;
    }

sites_for : (entries : Entries) (names : Names) (y : List ℕ) (all : List TextChange) (ds : List Dependency)
    (olds news : List Site) → AreOfSites ds olds → SitesMove all olds news → attributes_of news ≡ attributes_of olds
    → AllByRecursion (StandsAt y all) (edits_of entries names ds)
    → All (λ (s : Site). CutsLiteral y s.range s.value) news → AreTexts entries names ds
    → SitesFor entries names all ds news
sites_for entries names y all [] [] [] are moves attributes stands cuts texts = tt
sites_for entries names y all [] [] (n ∷ news) are moves attributes stands cuts texts =
    let bad = ap (λ (xs : List Attribute). length xs) attributes in absurd (let no : ⊥ = omega arith in no)
sites_for entries names y all [] (o ∷ olds) news are moves attributes stands cuts texts = absurd are
sites_for entries names y all (d ∷ ds) [] news are moves attributes stands cuts texts = absurd are
sites_for entries names y all (d ∷ ds) (o ∷ olds) [] are moves attributes stands cuts texts =
    absurd (moves_none all o olds moves)
sites_for entries names y all (d ∷ ds) (o ∷ olds) (n ∷ news) are moves attributes stands cuts texts =
    let P : Site → Type 0 = λ s. CutsLiteral y s.range s.value in
    let split = moves_first all o n olds news moves in (
      site_for entries names y all d o n are.0 split.0
          (same_head n.attribute o.attribute (attributes_of news) (attributes_of olds) attributes) stands.0
          (All-head P n news cuts) texts.0,
      sites_for entries names y all ds olds news are.1 split.1
          (same_tail n.attribute o.attribute (attributes_of news) (attributes_of olds) attributes) stands.1
          (All-tail P n news cuts) texts.1,
    )

-- ---- the whole source

pub record NewSource (entries : Entries) (names : Names) (m : JsModule) : Type 0 where
  pub sites : List Site
  pub has_sites : HasSites m.media_type (changed m.text 0 (new_literals entries names m)) sites
  pub is_text : IsUtf8 (changed m.text 0 (new_literals entries names m))
  pub are : SitesFor entries names (new_literals entries names m) m.dependencies sites

new_read : (entries : Entries) (names : Names) (m : JsModule) (tree : Program) (references : List Site)
    → IsUtf8 m.text
    → IsRead (language_of m.media_type) (modes_of m.media_type) m.media_type m.text tree references
    → references ≡ [] → AreOfSites m.dependencies (sites_of tree) → AreTexts entries names m.dependencies
    → NewSource entries names m
new_read entries names m tree references u read none are texts =
    let lang = language_of m.media_type in
    let modes = modes_of m.media_type in
    let x = m.text in
    let ts = read.tokens in
    let cs = read.comments in
    let changes : List TextChange = new_literals entries names m in
    let old = derived_by lang x ts modes tree read.is_tree in
    let cuts = derives_cuts lang old.0 x ts tree (cs, read.reads) old.1 in
    let stand = derives_stand lang old.0 x ts tree old.1 in
    let on : EditsOn ts 0 changes =
    edits_on entries names x ts cs 0 (length ts) m.dependencies (sites_of tree) read.reads are cuts stand in
    let c : Chosen ts changes = on_chosen ts 0 changes on in
    let y = changed x 0 changes in
    let moves = literals_move x ts cs changes read.reads c in
    let first = first_moves lang x ts cs changes modes tree read.reads c read.is_tree in
    let new_ts : List Token = map (token_to (moved changes)) ts in
    let new_cs : List Comment = map (comment_to (moved changes)) cs in
    let stay : references ≡ references_in m.media_type new_ts new_cs =
    read.refers ∙ refer_same (is_typed m.media_type) (sym (references_stay x ts cs changes read.reads c)) in
    let again : IsRead lang modes m.media_type y first.other references =
    record { tokens = new_ts; comments = new_cs; reads = moves.reads; is_tree = first.first; refers = stay } in
    let new = derived_by lang y new_ts modes first.other first.first in
    let new_cuts = derives_cuts lang new.0 y new_ts first.other (new_cs, moves.reads) new.1 in
    let stands = each_place (StandsAt y changes) changes
    (λ k d e. (change_stands x ts cs changes k d read.reads c e).2) in
    record {
      sites = sites_of first.other;
      has_sites = record {
        tree = first.other;
        references = references;
        read = again;
        both = ap (λ (rs : List Site). rs ++ sites_of first.other) (sym none);
      };
      is_text = changed_utf8 entries names x ts cs 0 0 m.dependencies u read.reads (IsCharBoundary-start x u) on texts;
      are = sites_for entries names y changes m.dependencies (sites_of tree) (sites_of first.other) are first.sites
          (first.attributes (at_sites entries names m.dependencies (sites_of tree) (sites_of tree) (λ r h. h) are))
          stands new_cuts texts;
    }

pub new_source : (entries : Entries) (names : Names) (m : JsModule) (old : List Site) → IsUtf8 m.text
    → HasSites m.media_type m.text old → AreOfSites m.dependencies old → edges_cause m.dependencies ≡ None
    → AreTexts entries names m.dependencies → NewSource entries names m
new_source entries names m old u has_sites are free texts =
    let references = has_sites.references in
    let tree = has_sites.tree in
    let split : AreOfSites m.dependencies (references ++ sites_of tree) =
    subst (AreOfSites m.dependencies) has_sites.both are in
    let refer = are_references (is_typed m.media_type) references has_sites.read.tokens has_sites.read.comments
    has_sites.read.refers in
    let none : references ≡ [] = no_references m.dependencies references (sites_of tree) refer split free in
    new_read entries names m tree references u has_sites.read none
    (subst (λ (rs : List Site). AreOfSites m.dependencies (rs ++ sites_of tree)) none split) texts
