-- The text with other specifiers: it can be made, and it is read as the old one, moved.
use Rattle.std.proofs.Common.{◌≡◌, ℕ, zero, suc, ◌+◌, ◌≤◌, ◌<◌, Bool, true, false, List, [], ◌∷◌, ◌++◌, length, drop, map, get_or, slice_get, Option, Some, refl, sym, ◌∙◌, ap, subst, arith, ◌⊎◌, inl, inr, if◌then◌else◌}
use Rattle.std.specs.List.{All, AllByRecursion as ByRecursion}
use Rattle.std.specs.Prelude.{chars, encode_utf8_all, String, string_bytes}
use Rattle.std.specs.Option.{option_map}
use Rattle.std.proofs.lemmas.Str.{IsUtf8-string_bytes}
use Rattle.std.specs.Str.{IsUtf8}
use Rattle.std.proofs.lemmas.List.Elements.{All-get_or, All-from_recursion}
use Rattle.std.proofs.lemmas.Option.{none-some, same_Some, get_or_from_slice_get, slice_get_within, slice_get-get_or, slice_get-map}
use Rattle.std.proofs.Math.Seq.{drop-append_seam}
use Rattle.base.specs.declared.range.Range.{Range}
use Rattle.es_literal.specs.Strings.{IsString}
use Rattle.es_literal.specs.Values.{value_of}
use Rattle.es_literal.specs.Quotes.{quoted}
use Rattle.es_literal.proofs.QuoteLemmas.{quoted_string, text_value}
use Rattle.es_token.specs.declared.token.Token.{Token}
use Rattle.es_token.specs.declared.token.Comment.{Comment}
use Rattle.es_lexer.specs.Reads.{Reads}
use Rattle.es_lexer.proofs.Theorems.{one_reading}
use Rattle.grammar_theory.specs.declared.error.Lang.{Lang}
use Rattle.grammar_theory.specs.declared.error.Mode.{Mode}
use Rattle.es_ast.specs.declared.ast.Program.{Program}
use Rattle.es_lowering.specs.derives.Derives.{Derives}
use Rattle.es_lowering.proofs.derives.Theorems.{one_tree}
use Rattle.media_type.specs.declared.media_type.MediaType.{MediaType}
use Rattle.media_type.specs.MediaType.{is_typed}
use Rattle.source_reading.specs.Tree.{language_of, modes_of, IsFirstTree}
use Rattle.source_reading.specs.Read.{IsRead, references_in, HasSites}
use Rattle.es_law_edits.specs.sites.Moved.{SitesMove, HasRange, AtSites, attributes_of}
use Rattle.es_law_edits.proofs.sites.Theorems.{sites_move, none_derives}
use Rattle.es_law_edits.specs.trees.Changed.{moved_program}
use Rattle.es_law_edits.proofs.trees.Theorems.{derives_move}
use Rattle.es_site.specs.declared.site.Site.{Site}
use Rattle.es_site.specs.Sites.{CutsLiteral, sites_of}
use Rattle.es_references.specs.References.{references_of}
use Rattle.es_law_texts.proofs.sites.Theorems.{derives_cuts}
use Rattle.es_law_texts.specs.site_order.Order.{StandOn}
use Rattle.es_law_texts.proofs.site_order.Theorems.{derives_stand}
use Rattle.source_text.specs.declared.text_changes.change.TextChange.{TextChange}
use Rattle.source_text.specs.declared.text_changes.error.TextChangeError.{TextChangeError}
use Rattle.source_text.specs.text_changes.Changes as text
use Rattle.es_law_edits.specs.tokens.Moved.{moved, range_to, token_to, comment_to, cut, text_to, Chosen}
use Rattle.es_law_edits.proofs.tokens.Theorems.{literals_move, text_moves, changes_apply, changes_pass, change_stands}
use Rattle.specifier_edits.specs.Sites.{AreSites, IsLiteral}
use Rattle.specifier_edits.specs.Edits.{NamesLiterals, range_of, edit, edits, ReadsMoved, KeepsTexts, CutsSpecifiers, ReadsMovedTree, KeepsSites}
use Rattle.specifier_edits.proofs.ReferenceLemmas.{AreReferences, references_are, literal_in, literal_behind}
use Rattle.specifier_edits.proofs.StayLemmas.{references_stay}
use Rattle.specifier_edits.proofs.EditLemmas.{AreStrings, EditsOn, edits_on, on_chosen}

refer_by : (references : List Site) (ts : List Token) (cs : List Comment)
    → (references ≡ []) ⊎ (references ≡ references_of ts cs) → AreReferences references
refer_by references ts cs (inl e) = subst AreReferences (sym e) tt
refer_by references ts cs (inr e) = subst AreReferences (sym e) (references_are ts cs)

-- ---- the literals among the sites
string_at : (x : List ℕ) (own : List Site) → All (λ (s : Site). CutsLiteral x s.range s.value) own
    → (m : ℕ) (s : Site) → slice_get own m ≡ Some s → IsString (cut x s.range)
string_at x own h m s at =
    let cuts : CutsLiteral x (get_or own m s).range (get_or own m s).value =
    All-get_or (λ (s : Site). CutsLiteral x s.range s.value) own m s (slice_get_within own m s at) h in
    subst (λ (u : Site). IsString (cut x u.range)) (get_or_from_slice_get own m s s at) cuts.2

strings_of : (x : List ℕ) (references own : List Site) → AreReferences references
    → All (λ (s : Site). CutsLiteral x s.range s.value) own → AreStrings x (references ++ own)
strings_of x references own refer h n site at literal =
    literal_in references own (λ (s : Site). IsString (cut x s.range)) n site refer (string_at x own h) at literal

-- ---- the first number is behind the references
names_behind : {A : Type 0} (references own : List Site) (changes : List (ℕ × String A)) → AreReferences references
    → NamesLiterals (references ++ own) 0 changes → NamesLiterals (references ++ own) (length references) changes
names_behind references own [] refer h = tt
names_behind references own (c ∷ cs) refer h =
    (h.0, h.1, h.2, literal_behind references own c.0 h.0 refer h.1 h.2, h.4)

edits_by : {A : Type 0} (x : List ℕ) (ts : List Token) (cs : List Comment) (references own : List Site) (to : ℕ)
    (changes : List (ℕ × String A)) → Reads x ts cs → AreReferences references
    → All (λ (s : Site). CutsLiteral x s.range s.value) own → StandOn ts 0 to own
    → NamesLiterals (references ++ own) 0 changes → EditsOn ts 0 (edits (references ++ own) changes)
edits_by x ts cs references own to changes r refer h stand names =
    let front : drop (length references) (references ++ own) ≡ own = drop-append_seam references own in
    edits_on x ts cs (references ++ own) (length references) 0 to changes r (strings_of x references own refer h)
    (subst (λ (ss : List Site). StandOn ts 0 to ss) (sym front) stand) (names_behind references own changes refer names)

-- the changes of numbered literals are chosen among the tokens of the text
pub edits_chosen : {A : Type 0} (x : List ℕ) (sites : List Site) (changes : List (ℕ × String A)) (a : AreSites x sites)
    → NamesLiterals sites 0 changes → Chosen a.tokens (edits sites changes)
edits_chosen x sites changes a names =
    let refer : AreReferences a.references = refer_by a.references a.tokens a.comments a.refer in
    let cuts = derives_cuts a.lang a.mode x a.tokens a.tree (a.comments, a.reads) a.derived in
    let stand = derives_stand a.lang a.mode x a.tokens a.tree a.derived in
    let on : EditsOn a.tokens 0 (edits (a.references ++ sites_of a.tree) changes) =
    edits_by x a.tokens a.comments a.references (sites_of a.tree) (length a.tokens) changes a.reads refer cuts stand
    (subst (λ (ss : List Site). NamesLiterals ss 0 changes) a.both names) in
    subst (λ (ss : List Site). Chosen a.tokens (edits ss changes)) (sym a.both)
    (on_chosen a.tokens 0 (edits (a.references ++ sites_of a.tree) changes) on)

-- ---- what is promised of the new text
pub none_refused : {A : Type 0} (x : List ℕ) (sites : List Site) (changes : List (ℕ × String A))
    (made : List TextChange)
    (e : TextChangeError) → IsUtf8 x → AreSites x sites → NamesLiterals sites 0 changes → made ≡ edits sites changes
    → text.IsRefused x made e → ⊥
none_refused x sites changes made e u a names same h =
    changes_pass x a.tokens a.comments (edits sites changes) e u a.reads (edits_chosen x sites changes a names)
    (subst (λ (cs : List TextChange). text.IsRefused x cs e) same h)

pub is_changed : {A : Type 0} (x : List ℕ) (sites : List Site) (changes : List (ℕ × String A)) (made : List TextChange)
    (y : List ℕ) → AreSites x sites → NamesLiterals sites 0 changes → made ≡ edits sites changes
    → text.IsChanged x made y → y ≡ text.changed x 0 (edits sites changes)
is_changed x sites changes made y a names same h =
    changes_apply x a.tokens a.comments (edits sites changes) y a.reads (edits_chosen x sites changes a names)
    (subst (λ (cs : List TextChange). text.IsChanged x cs y) same h)

chosen_among : {A : Type 0} (x : List ℕ) (sites : List Site) (changes : List (ℕ × String A)) (ts : List Token)
    (cs : List Comment) → AreSites x sites → NamesLiterals sites 0 changes → Reads x ts cs
    → Chosen ts (edits sites changes)
chosen_among x sites changes ts cs a names r =
    let same = one_reading x a.tokens ts a.comments cs a.reads r in
    let tokens : a.tokens ≡ ts = same.0 in
    subst (λ (us : List Token). Chosen us (edits sites changes)) tokens (edits_chosen x sites changes a names)

-- tokens and comments that read the old text move
pub reads_moved : {A : Type 0} (x : List ℕ) (sites : List Site) (changes : List (ℕ × String A)) (y : List ℕ)
    → AreSites x sites → NamesLiterals sites 0 changes → y ≡ text.changed x 0 (edits sites changes)
    → ReadsMoved x (edits sites changes) y
reads_moved x sites changes y a names same ts cs r =
    let m = literals_move x ts cs (edits sites changes) r (chosen_among x sites changes ts cs a names r) in
    subst (λ (z : List ℕ). Reads z (map (token_to (moved (edits sites changes))) ts)
    (map (comment_to (moved (edits sites changes))) cs)) (sym same) m.reads

pub keeps_texts : {A : Type 0} (x : List ℕ) (sites : List Site) (changes : List (ℕ × String A)) (y : List ℕ)
    → AreSites x sites → NamesLiterals sites 0 changes → y ≡ text.changed x 0 (edits sites changes)
    → KeepsTexts x (edits sites changes) y
keeps_texts x sites changes y a names same ts cs n t r at =
    subst (λ (z : List ℕ). cut z (range_to (moved (edits sites changes)) t.range)
    ≡ text_to (edits sites changes) x t.range)
    (sym same)
    (text_moves x ts cs (edits sites changes) n t r (chosen_among x sites changes ts cs a names r) at)

-- ---- the new literals
literal_at : (y s : List ℕ) (r : Range) (value : List ℕ) → r.start < r.end → r.end ≤ length y → cut y r ≡ s → IsString s
    → value_of s ≡ value → CutsLiteral y r value
literal_at y s r value l m same i v = (
  omega (arith, l),
  m,
  subst IsString (sym same) i,
  ap value_of same ∙ v,
)

cuts_at : {A : Type 0} (x : List ℕ) (sites : List Site) (changes : List (ℕ × String A)) (y : List ℕ) (k : ℕ)
    (d : ℕ × String A) → AreSites x sites → NamesLiterals sites 0 changes → y ≡ text.changed x 0 (edits sites changes)
    → slice_get changes k ≡ Some d
    → CutsLiteral y (range_to (moved (edits sites changes)) (range_of (slice_get sites d.0))) (string_bytes d.1)
cuts_at {A} x sites changes y k d a names same at =
    let of : ℕ × String A → TextChange = λ change. edit sites change.0 (string_bytes change.1) in
    let there : slice_get (edits sites changes) k ≡ Some (of d) = slice_get-map of changes k ∙ ap (option_map of) at in
    let stands = change_stands x a.tokens a.comments (edits sites changes) k (of d) a.reads
    (edits_chosen x sites changes a names) there in
    subst (λ (z : List ℕ). CutsLiteral z (range_to (moved (edits sites changes)) (range_of (slice_get sites d.0)))
    (string_bytes d.1)) (sym same)
    (literal_at (text.changed x 0 (edits sites changes)) (encode_utf8_all (quoted (chars (string_bytes d.1))))
    (range_to (moved (edits sites changes)) (range_of (slice_get sites d.0))) (string_bytes d.1) stands.0 stands.1
    stands.2
    (quoted_string (chars (string_bytes d.1))) (text_value (string_bytes d.1) (IsUtf8-string_bytes d.1)))

pub cuts_specifiers : {A : Type 0} (x : List ℕ) (sites : List Site) (changes : List (ℕ × String A)) (y : List ℕ)
    → AreSites x sites → NamesLiterals sites 0 changes → y ≡ text.changed x 0 (edits sites changes)
    → CutsSpecifiers sites changes y
cuts_specifiers x sites changes y a names same k d inside =
    cuts_at x sites changes y k (get_or changes k d) a names same (slice_get-get_or changes k d inside)

-- ---- numbers of sites
within : {A : Type 0} (sites : List Site) (from : ℕ) (changes : List (ℕ × String A)) → NamesLiterals sites from changes
    → ByRecursion (λ (change : ℕ × String A). change.0 < length sites) changes
within sites from [] names = tt
within sites from (c ∷ cs) names = (slice_get_within sites c.0 names.0 names.1, within sites (c.0 + 1) cs names.4)

pub names_within : {A : Type 0} (sites : List Site) (from : ℕ) (changes : List (ℕ × String A))
    → NamesLiterals sites from changes → All (λ (change : ℕ × String A). change.0 < length sites) changes
names_within {A} sites from changes names =
    All-from_recursion (λ (change : ℕ × String A). change.0 < length sites) changes (within sites from changes names)

-- ---- sites that were read
derived_by : (lang : Lang) (x : List ℕ) (ts : List Token) (modes : List Mode) (tree : Program)
    → IsFirstTree lang x ts modes tree → (m : Mode) × Derives lang m x ts tree
derived_by lang x ts [] tree h = absurd h
derived_by lang x ts (m ∷ modes) tree (inl d) = (m, d)
derived_by lang x ts (m ∷ modes) tree (inr h) = derived_by lang x ts modes tree h.1

refer_if : (typed : Bool) (found : List Site) (ts : List Token) (cs : List Comment)
    → found ≡ (if typed then references_of ts cs else []) → (found ≡ []) ⊎ (found ≡ references_of ts cs)
refer_if true found ts cs e = inr e
refer_if false found ts cs e = inl e

-- a text that is read as a tree has the sites of its references and of this tree
pub read_sites : (lang : Lang) (modes : List Mode) (media : MediaType) (x : List ℕ) (tree : Program)
    (references : List Site) → IsRead lang modes media x tree references → AreSites x (references ++ sites_of tree)
read_sites lang modes media x tree references read =
    let found = derived_by lang x read.tokens modes tree read.is_tree in
    record {
      tokens = read.tokens;
      comments = read.comments;
      reads = read.reads;
      lang = lang;
      mode = found.0;
      tree = tree;
      derived = found.1;
      references = references;
      refer = refer_if (is_typed media) references read.tokens read.comments read.refers;
      both = refl;
    }

-- those that a source of a media type has are sites of its text
pub source_sites : (media : MediaType) (x : List ℕ) (sites : List Site) → HasSites media x sites → AreSites x sites
source_sites media x sites h =
    subst (AreSites x) (sym h.both) (read_sites (language_of media) (modes_of media) media x h.tree h.references h.read)

-- ---- changes are of sites of the tree
has_range : (own : List Site) (n : ℕ) (site : Site) → slice_get own n ≡ Some site → HasRange own site.range
has_range [] n site at = absurd (none-some site at)
has_range (s ∷ own) zero site at = inl (ap (λ (u : Site). u.range) (same_Some s site at))
has_range (s ∷ own) (suc n) site at = inr (has_range own n site at)

own_range : (references own : List Site) (n : ℕ) (site : Site) → AreReferences references
    → slice_get (references ++ own) n ≡ Some site → IsLiteral site
    → HasRange own (range_of (slice_get (references ++ own) n))
own_range references own n site refer at literal =
    let P : Option Site → Type 0 = λ o. HasRange own (range_of o) in
    subst P (sym at)
    (literal_in references own (λ (s : Site). HasRange own s.range) n site refer (λ m s here. has_range own m s here) at
    literal)

at_sites : {A : Type 0} (references own : List Site) (from : ℕ) (changes : List (ℕ × String A))
    → AreReferences references → NamesLiterals (references ++ own) from changes
    → AtSites own (edits (references ++ own) changes)
at_sites references own from [] refer names = tt
at_sites references own from (c ∷ cs) refer names =
    (own_range references own c.0 names.0 refer names.1 names.2, at_sites references own (c.0 + 1) cs refer names.4)

read_references : (lang : Lang) (modes : List Mode) (media : MediaType) (x : List ℕ) (tree : Program)
    (references : List Site) → IsRead lang modes media x tree references → AreReferences references
read_references lang modes media x tree references read =
    refer_by references read.tokens read.comments
    (refer_if (is_typed media) references read.tokens read.comments read.refers)

edits_at : {A : Type 0} (lang : Lang) (modes : List Mode) (media : MediaType) (x : List ℕ) (tree : Program)
    (references sites : List Site) (changes : List (ℕ × String A)) → IsRead lang modes media x tree references
    → NamesLiterals sites 0 changes → sites ≡ references ++ sites_of tree
    → AtSites (sites_of tree) (edits sites changes)
edits_at {A} lang modes media x tree references sites changes read names e =
    let P : List Site → Type 0 = λ ss. AtSites (sites_of tree) (edits ss changes) in
    subst P (sym e)
    (at_sites references (sites_of tree) 0 changes (read_references lang modes media x tree references read)
    (subst (λ (ss : List Site). NamesLiterals ss 0 changes) e names))

-- ---- the tree of the new text
-- it is derived first, too, and is the old one, moved; and its sites have moved
record FirstMoves (lang : Lang) (x : List ℕ) (ts : List Token) (changes : List TextChange) (modes : List Mode)
    (tree : Program) : Type 0 where
  other : Program
  first : IsFirstTree lang (text.changed x 0 changes) (map (token_to (moved changes)) ts) modes other
  moves : other ≡ moved_program changes tree
  sites : SitesMove changes (sites_of tree) (sites_of other)
  attributes : AtSites (sites_of tree) changes → attributes_of (sites_of other) ≡ attributes_of (sites_of tree)

first_moves : (lang : Lang) (x : List ℕ) (ts : List Token) (cs : List Comment) (changes : List TextChange)
    (modes : List Mode) (tree : Program) → Reads x ts cs → Chosen ts changes → IsFirstTree lang x ts modes tree
    → FirstMoves lang x ts changes modes tree
first_moves lang x ts cs changes [] tree r c h = absurd h
first_moves lang x ts cs changes (m ∷ modes) tree r c (inl d) =
    let still = sites_move lang m x ts cs changes tree r c d in
    let moves : still.new ≡ moved_program changes tree = one_tree lang m (text.changed x 0 changes)
    (map (token_to (moved changes)) ts) still.new (moved_program changes tree) still.derived
    (derives_move lang m x ts cs changes tree r c d) in
    record {
      other = still.new;
      first = inl still.derived;
      moves = moves;
      sites = still.sites;
      attributes = still.attributes;
    }
first_moves lang x ts cs changes (m ∷ modes) tree r c (inr h) =
    let rest = first_moves lang x ts cs changes modes tree r c h.1 in
    record {
      other = rest.other;
      first = inr (λ other d. none_derives lang m x ts cs changes other r c h.0 d, rest.first);
      moves = rest.moves;
      sites = rest.sites;
      attributes = rest.attributes;
    }

refer_same : (typed : Bool) {found other : List Site} → found ≡ other
    → (if typed then found else []) ≡ (if typed then other else [])
refer_same typed e = ap (λ (ss : List Site). if typed then ss else []) e

-- it is read in the same language and by the same modes as the old tree, moved, and its sites are the old ones, moved
pub keeps_sites : {A : Type 0} (x : List ℕ) (sites : List Site) (changes : List (ℕ × String A)) (y : List ℕ)
    → AreSites x sites → NamesLiterals sites 0 changes → y ≡ text.changed x 0 (edits sites changes)
    → KeepsSites x sites changes y
keeps_sites {A} x sites changes y a names same lang modes media tree references read =
    let made : List TextChange = edits sites changes in
    let c : Chosen read.tokens made = chosen_among x sites changes read.tokens read.comments a names read.reads in
    let m = literals_move x read.tokens read.comments made read.reads c in
    let first = first_moves lang x read.tokens read.comments made modes tree read.reads c read.is_tree in
    let ts : List Token = map (token_to (moved made)) read.tokens in
    let cs : List Comment = map (comment_to (moved made)) read.comments in
    let stay : references ≡ references_in media ts cs =
    read.refers ∙ refer_same (is_typed media) (sym (references_stay x read.tokens read.comments made read.reads c)) in
    subst (λ (z : List ℕ). ReadsMovedTree lang modes media sites made z tree references) (sym same) (record {
      other = first.other;
      read = record { tokens = ts; comments = cs; reads = m.reads; is_tree = first.first; refers = stay };
      moves = first.moves;
      sites = first.sites;
      attributes = λ e.
          first.attributes (edits_at lang modes media x tree references sites changes read names e);
    })
