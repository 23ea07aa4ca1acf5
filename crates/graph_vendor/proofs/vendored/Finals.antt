-- The edges of the new entries stay as they are: none is refused that wasn't refused in the old graph.
use Rattle.std.proofs.Common.{◌≡◌, ◌∙◌, refl, sym, ap, subst, ℕ, zero, suc, Bool, true, false, List, [], ◌∷◌, Option, Some, None}
use Rattle.std.specs.Prelude.{bytes_eq, ◌||◌, option_map, option_and_then, Ok, Err, if◌then◌else◌}
use Rattle.std.specs.List.{AllByRecursion, cons_option, filter_map}
use Rattle.std.specs.Result.{result_ok}
use Rattle.std.specs.Cmp.Lexicographic.{nat_list_eq_equiv}
use Rattle.std.proofs.lemmas.Option.{none-some, same_Some}
use Rattle.url.specs.Parts.{Parts}
use Rattle.es_site.specs.declared.site.Attribute.{Attribute}
use Rattle.es_site.specs.declared.site.Attribute.TheVariants.{Absent, Named, Unknown}
use Rattle.es_site.specs.declared.site.DependencyKind.{DependencyKind}
use Rattle.media_type.specs.declared.media_type.MediaType.{MediaType}
use Rattle.media_type.specs.MediaType.{is_typed}
use Rattle.graph_entry.specs.declared.entry.Dependency.{Dependency}
use Rattle.graph_entry.specs.declared.entry.JsModule.{JsModule}
use Rattle.graph_entry.specs.declared.entry.Module.{Module}
use Rattle.graph_entry.specs.declared.entry.Module.TheVariants.{Js, Json, Wasm}
use Rattle.graph_entry.specs.declared.entry.Entry.{Entry}
use Rattle.graph_entry.specs.declared.entry.Entry.TheVariants as entry
use Rattle.graph_entry.specs.Specifier.{text_of}
use Rattle.graph_entry.specs.Entry.{edge_target}
use Rattle.graph_entry.specs.Resolution.{Resolved}
use Rattle.graph_builder.specs.Rules.{targets, led_to, edges_of, is_followed}
use Rattle.graph_builder.specs.Reach.{Specifier, has, IsEntry}
use Rattle.graph_builder.specs.Final.{Redirects, is_redirect, LeadsTo, fits_by, fits_phase, LeadsAmiss, IsFinalEdge, misfit, phase_misfit, fit, AreFinalEdges, with_edges, IsFinal, redirect, too_far, with_module, same}
use Rattle.graph_builder.specs.Graph.{entry_of}
use Rattle.graph_vendor.specs.Names.{Entries, Names, renamed}
use Rattle.graph_vendor.specs.vendored.Vendored.{new_literals, EdgeMoves, EdgesMove, SourceMoves, EntryMoves}
use Rattle.graph_vendor.proofs.vendored.Lists.{or_later}
use Rattle.graph_vendor.proofs.vendored.Setting.{Setting, entries_of, names_of, old_rules, new_rules, new_answers}
use Rattle.graph_vendor.proofs.vendored.Entries.{Fits, known, Reaches, led}
use Rattle.graph_vendor.proofs.vendored.News.{Newly, newly, wasm_alone}
use Rattle.graph_vendor.proofs.vendored.Reached.{led_renamed, step_reached, follow_same, follows, only_new}

-- ---- what suits a module suits what it becomes

-- sources are alike to it
abbrev SuitsAlike : (Module → Bool) → Type 0
SuitsAlike suits = (m n : JsModule) → suits (Js m) ≡ suits (Js n)

pub fits_alike : (b : Bool) (a : Attribute) → SuitsAlike (fits_by b a)
fits_alike true Absent m n = refl
fits_alike false Absent m n = refl
fits_alike true (Named text) m n = refl
fits_alike false (Named text) m n = refl
fits_alike true Unknown m n = refl
fits_alike false Unknown m n = refl

same_module : (m n : Module) → entry.Module m ≡ entry.Module n → m ≡ n
same_module m n e = cc

-- what an entry that has moved is, where it is a module that doesn't suit
record Unsuited (last : Entry) (suits : Module → Bool) : Type 0 where
  old : Module
  is : last ≡ entry.Module old
  unfit : suits old ≡ false

unsuited : (entries : Entries) (names : Names) (last : Entry) (found : Module) (suits : Module → Bool)
    → SuitsAlike suits → EntryMoves entries names last (entry.Module found) → suits found ≡ false
    → Unsuited last suits
unsuited entries names (entry.Module (Js m)) found suits alike moves amiss =
    let is : found ≡ Js moves.0 = same_module found (Js moves.0) moves.2 in
    record { old = Js m; is = refl; unfit = alike m moves.0 ∙ ap suits (sym is) ∙ amiss }
unsuited entries names (entry.Module (Json m)) found suits alike moves amiss =
    record { old = Json m; is = refl; unfit = ap suits (sym (same_module found (Json m) moves)) ∙ amiss }
unsuited entries names (entry.Module (Wasm m)) found suits alike moves amiss =
    record { old = Wasm m; is = refl; unfit = ap suits (sym (same_module found (Wasm m) moves)) ∙ amiss }
unsuited entries names (entry.Redirect target) found suits alike moves amiss = absurd (let bad : ⊥ = cc in bad)
unsuited entries names (entry.Package held) found suits alike moves amiss = absurd (let bad : ⊥ = cc in bad)
unsuited entries names entry.External found suits alike moves amiss = absurd (let bad : ⊥ = cc in bad)
unsuited entries names (entry.Error fault) found suits alike moves amiss = absurd (let bad : ⊥ = cc in bad)

-- over the new answers no redirect leads on from a new name
found_here : (v : Setting) (s t end : Specifier) (last x : Entry) (n : Newly v s last) (k : ℕ)
    → renamed (entries_of v) (names_of v) s ≡ Some t → Redirects (new_rules v) (new_answers v) k t end
    → IsEntry (new_rules v) (new_answers v) end x → n.made ≡ x
found_here v s t end last x n zero named way is =
    only_new v s t last x n named
    (subst (λ (r : Specifier). IsEntry (new_rules v) (new_answers v) r x) (sym way) is)
found_here v s t end last x n (suc k) named way is =
    let one : n.made ≡ entry.Redirect way.0 = only_new v s t last (entry.Redirect way.0) n named way.1 in
    let yes = ap is_redirect one in
    let stays_so = n.stays in absurd (let bad : ⊥ = cc in bad)

-- ---- one edge

-- where an edge leads, by where it is told to lead
record Told (r : Resolved) (s : Specifier) : Type 0 where
  target : Parts
  is : r ≡ Ok target
  text : text_of target ≡ s

told_by : (r : Resolved) (s : Specifier) → option_map text_of (result_ok r) ≡ Some s → Told r s
told_by (Ok target) s e = record { target = target; is = refl; text = same_Some (text_of target) s e }
told_by (Err fault) s e = absurd (none-some s e)

record ToldBy (entries : Entries) (names : Names) (o : Option Specifier) (t : Specifier) : Type 0 where
  s : Specifier
  is : o ≡ Some s
  named : renamed entries names s ≡ Some t

named_by : (entries : Entries) (names : Names) (o : Option Specifier) (t : Specifier)
    → option_and_then (renamed entries names) o ≡ Some t → ToldBy entries names o t
named_by entries names None t e = absurd (none-some t e)
named_by entries names (Some s) t e = record { s = s; is = refl; named = e }

leads_on : (v : Setting) (last : Entry) (m : Module) (s : Specifier) (target : Parts) → text_of target ≡ s
    → last ≡ entry.Module m → LeadsTo (old_rules v) v.answers s last
    → LeadsTo (old_rules v) v.answers (text_of target) (entry.Module m)
leads_on v last m s target text is leads =
    subst (λ (y : Entry). LeadsTo (old_rules v) v.answers (text_of target) y) is
    (subst (λ (r : Specifier). LeadsTo (old_rules v) v.answers r last) (sym text) leads)

-- an edge that leads amiss over the new answers led amiss before
pub amiss_back : (v : Setting) (m n : JsModule) (d e : Dependency) (suits : Module → Bool) → SuitsAlike suits
    → n.media_type ≡ m.media_type
    → EdgeMoves (entries_of v) (names_of v) (new_literals (entries_of v) (names_of v) m) d e
    → ((s : Specifier) → led_to (follows v.following m) d ≡ Some s → Reaches v s)
    → LeadsAmiss (new_rules v) (new_answers v) (Js n) e suits → LeadsAmiss (old_rules v) v.answers (Js m) d suits
amiss_back v m n d e suits alike media moves reached amiss =
    let entries = entries_of v in
    let names = names_of v in
    let literals = new_literals entries names m in
    let new_follows : is_followed v.following (is_typed m.media_type) e ≡ true =
    subst (λ (t : MediaType). is_followed v.following (is_typed t) e ≡ true) media amiss.followed in
    let old_follows : follows v.following m d ≡ true =
    sym (follow_same v.following (is_typed m.media_type) entries names literals d e moves) ∙ new_follows in
    let t = text_of amiss.target in
    let leads : edge_target e ≡ Some t = ap (λ (r : Resolved). option_map text_of (result_ok r)) amiss.resolved in
    let came = named_by entries names (edge_target d) t (sym moves.target ∙ leads) in
    let told = told_by d.resolution came.s came.is in
    let on : led_to (follows v.following m) d ≡ Some came.s =
    ap (λ (b : Bool). if b then edge_target d else None) old_follows ∙ came.is in
    let l = led v came.s (reached came.s on) in
    let x = newly v l.end l.last l.at l.stays in
    let named : renamed entries names l.end ≡ Some t = sym (led_renamed v came.s l) ∙ came.named in
    let made : x.made ≡ entry.Module amiss.found =
    found_here v l.end t amiss.leads.end l.last (entry.Module amiss.found) x amiss.leads.steps named amiss.leads.way
    amiss.leads.is_entry in
    let unfit = unsuited entries names l.last amiss.found suits alike
    (subst (EntryMoves entries names l.last) made x.moves) amiss.unfit in
    record {
      followed = old_follows;
      target = told.target;
      resolved = told.is;
      found = unfit.old;
      leads = leads_on v l.last unfit.old came.s told.target told.text unfit.is l.leads;
      unfit = unfit.unfit;
    }

edge_stays : (v : Setting) (m n : JsModule) (d e made : Dependency) → n.media_type ≡ m.media_type
    → EdgeMoves (entries_of v) (names_of v) (new_literals (entries_of v) (names_of v) m) d e
    → ((s : Specifier) → led_to (follows v.following m) d ≡ Some s → Reaches v s)
    → Fits (old_rules v) v.answers (Js m) d → IsFinalEdge (new_rules v) (new_answers v) (Js n) e made → made ≡ e
edge_stays v m n d e made media moves reached ok (misfit amiss is) =
    let lacks = v.following.json_without_attribute in
    absurd (ok.attribute (amiss_back v m n d e (fits_by lacks d.attribute) (fits_alike lacks d.attribute) media moves
    reached (subst (λ (a : Attribute). LeadsAmiss (new_rules v) (new_answers v) (Js n) e (fits_by lacks a))
    moves.attribute amiss)))
edge_stays v m n d e made media moves reached ok (phase_misfit none amiss is) =
    absurd (ok.phase (amiss_back v m n d e (fits_phase d.kind) (λ a b. refl) media moves reached
    (subst (λ (k : DependencyKind). LeadsAmiss (new_rules v) (new_answers v) (Js n) e (fits_phase k)) moves.kind
    amiss)))
edge_stays v m n d e made media moves reached ok (fit none also is) = is

-- ---- all of them

abbrev pub LeadsInto : Setting → JsModule → List Dependency → Type 0
LeadsInto v m ds = (s : Specifier) → has (filter_map (led_to (follows v.following m)) ds) s ≡ true → Reaches v s

pub into_first : (v : Setting) (m : JsModule) (d : Dependency) (ds : List Dependency) (s : Specifier)
    → LeadsInto v m (d ∷ ds) → led_to (follows v.following m) d ≡ Some s → Reaches v s
into_first v m d ds s into e =
    into s (ap (λ (o : Option Specifier). has (cons_option o (filter_map (led_to (follows v.following m)) ds)) s) e
    ∙ ap (λ (b : Bool). b || has (filter_map (led_to (follows v.following m)) ds) s) (nat_list_eq_equiv.refl s))

pub into_later : (v : Setting) (m : JsModule) (d : Dependency) (ds : List Dependency) → LeadsInto v m (d ∷ ds)
    → LeadsInto v m ds
into_later v m d ds into s h = into s (by (led_to (follows v.following m) d))
  where
    by : (o : Option Specifier) → has (cons_option o (filter_map (led_to (follows v.following m)) ds)) s ≡ true
    by None = h
    by (Some u) = or_later (bytes_eq s u) (has (filter_map (led_to (follows v.following m)) ds) s) h

edges_stay : (v : Setting) (m n : JsModule) (ds es made : List Dependency) → n.media_type ≡ m.media_type
    → EdgesMove (entries_of v) (names_of v) (new_literals (entries_of v) (names_of v) m) ds es → LeadsInto v m ds
    → AllByRecursion (Fits (old_rules v) v.answers (Js m)) ds
    → AreFinalEdges (new_rules v) (new_answers v) (Js n) es made → made ≡ es
edges_stay v m n [] [] [] media moves into ok are = refl
edges_stay v m n [] [] (x ∷ made) media moves into ok are = absurd are
edges_stay v m n [] (e ∷ es) made media moves into ok are = absurd moves
edges_stay v m n (d ∷ ds) [] made media moves into ok are = absurd moves
edges_stay v m n (d ∷ ds) (e ∷ es) [] media moves into ok are = absurd are
edges_stay v m n (d ∷ ds) (e ∷ es) (x ∷ made) media moves into ok are =
    let here : x ≡ e =
    edge_stays v m n d e x media moves.0 (λ s on. into_first v m d ds s into on) ok.0 are.0 in
    let rest = edges_stay v m n ds es made media moves.1 (into_later v m d ds into) ok.1 are.1 in
    ap (λ (y : Dependency). y ∷ made) here ∙ ap (λ (ys : List Dependency). e ∷ ys) rest

-- ---- the final entry

pub module_into : (v : Setting) (s : Specifier) (m : JsModule) → entry_of (entries_of v) s ≡ Some (entry.Module (Js m))
    → LeadsInto v m m.dependencies
unfolding targets
module_into v s m at r h = step_reached v s r (entry.Module (Js m)) at h

js_final : (v : Setting) (s : Specifier) (m n : JsModule) (edges : List Dependency)
    → entry_of (entries_of v) s ≡ Some (entry.Module (Js m)) → SourceMoves (entries_of v) (names_of v) m n
    → AreFinalEdges (new_rules v) (new_answers v) (Js n) n.dependencies edges → edges ≡ n.dependencies
js_final v s m n edges at moves are =
    edges_stay v m n m.dependencies n.dependencies edges moves.media_type moves.edges (module_into v s m at)
    ((known v s (entry.Module (Js m)) at).edges (Js m) refl) are

no_edges : (v : Setting) (k : Module) (edges : List Dependency)
    → AreFinalEdges (new_rules v) (new_answers v) k [] edges → edges ≡ []
no_edges v k [] are = refl
no_edges v k (x ∷ edges) are = absurd are

-- the module with its own edges
whole_js : (v : Setting) (s : Specifier) (m n : JsModule) (edges : List Dependency)
    → entry_of (entries_of v) s ≡ Some (entry.Module (Js m)) → SourceMoves (entries_of v) (names_of v) m n
    → AreFinalEdges (new_rules v) (new_answers v) (Js n) n.dependencies edges → with_edges (Js n) edges ≡ Js n
whole_js v s m n edges at moves are = ap (with_edges (Js n)) (js_final v s m n edges at moves are)

module_stays : (v : Setting) (s : Specifier) (e : Entry) (first : Module) (edges : List Dependency)
    → entry_of (entries_of v) s ≡ Some e → EntryMoves (entries_of v) (names_of v) e (entry.Module first)
    → AreFinalEdges (new_rules v) (new_answers v) first (edges_of first) edges → with_edges first edges ≡ first
module_stays v s (entry.Module (Js m)) first edges at moves are =
    let is : first ≡ Js moves.0 = same_module first (Js moves.0) moves.2 in
    let P : Module → Type 0 = λ k. AreFinalEdges (new_rules v) (new_answers v) k (edges_of k) edges in
    ap (λ (k : Module). with_edges k edges) is ∙ whole_js v s m moves.0 edges at moves.1 (subst P is are) ∙ sym is
module_stays v s (entry.Module (Json m)) first edges at moves are =
    let is : first ≡ Json m = same_module first (Json m) moves in
    ap (λ (k : Module). with_edges k edges) is ∙ sym is
module_stays v s (entry.Module (Wasm m)) first edges at moves are =
    let is : first ≡ Wasm m = same_module first (Wasm m) moves in
    let P : Module → Type 0 = λ k. AreFinalEdges (new_rules v) (new_answers v) k (edges_of k) edges in
    let Q : List Dependency → Type 0 = λ ds. AreFinalEdges (new_rules v) (new_answers v) (Wasm m) ds edges in
    let alone : m.dependencies ≡ [] = wasm_alone v s m at in
    let none : edges ≡ [] = no_edges v (Wasm m) edges (subst Q alone (subst P is are)) in
    ap (λ (k : Module). with_edges k edges) is ∙ ap (with_edges (Wasm m)) (none ∙ sym alone) ∙ sym is
module_stays v s (entry.Redirect target) first edges at moves are = absurd (let bad : ⊥ = cc in bad)
module_stays v s (entry.Package held) first edges at moves are = absurd (let bad : ⊥ = cc in bad)
module_stays v s entry.External first edges at moves are = absurd (let bad : ⊥ = cc in bad)
module_stays v s (entry.Error fault) first edges at moves are = absurd (let bad : ⊥ = cc in bad)

-- at a new name the graph has what the old entry became
pub final_new : (v : Setting) (s t : Specifier) (e x : Entry) (n : Newly v s e)
    → entry_of (entries_of v) s ≡ Some e → renamed (entries_of v) (names_of v) s ≡ Some t
    → IsFinal (new_rules v) (new_answers v) t x → n.made ≡ x
final_new v s t e x n at named (redirect target is last leads stays made) =
    let yes = ap is_redirect (only_new v s t e (entry.Redirect target) n named is) in
    let stays_so = n.stays in absurd (let bad : ⊥ = cc in bad)
final_new v s t e x n at named (too_far target is far made) =
    let yes = ap is_redirect (only_new v s t e (entry.Redirect target) n named is) in
    let stays_so = n.stays in absurd (let bad : ⊥ = cc in bad)
final_new v s t e x n at named (with_module first is edges are made) =
    let one : n.made ≡ entry.Module first = only_new v s t e (entry.Module first) n named is in
    let whole = module_stays v s e first edges at (subst (EntryMoves (entries_of v) (names_of v) e) one n.moves) are in
    one ∙ ap (λ (k : Module). entry.Module k) (sym whole) ∙ sym made
final_new v s t e x n at named (same first is stays plain made) = only_new v s t e first n named is ∙ sym made
