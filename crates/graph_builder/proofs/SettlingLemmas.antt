-- The loops over first entries, their verdicts and their edges.
use Rattle.std.proofs.Common.{zero, suc, ◌≡◌, ◌<◌, ◌≤◌, ◌+◌, ◌-◌, ℕ, Bool, true, false, List, [], ◌∷◌, ◌++◌, length, map, take, slice_get, get_or, refl, sym, ◌∙◌, ap, ap₂, subst, arith, Option, Some, None, Ok, length-append}
use Rattle.std.specs.Prelude.{option_and_then, is_none, ◌&&◌, if◌then◌else◌}
use Rattle.std.specs.List.{zip}
use Rattle.std.proofs.lemmas.List.{length-map, take_all}
use Rattle.url.specs.Parts.{Parts}
use Rattle.graph_entry.specs.Specifier.{text_of}
use Rattle.graph_entry.specs.Resolution.{Resolved}
use Rattle.graph_entry.specs.declared.entry.Dependency.{Dependency}
use Rattle.graph_entry.specs.declared.entry.Entry.{Entry}
use Rattle.graph_entry.specs.declared.entry.Module.{Module}
use Rattle.graph_entry.specs.declared.entry.Module.TheVariants.{Js, Json, Wasm}
use Rattle.graph_entry.specs.declared.entry.Entry.TheVariants as entry
use Rattle.graph_entry.specs.declared.entry.ModuleError.TheVariants.{TooManyRedirects}
use Rattle.graph_builder.specs.declared.settle.Unfit.{Unfit}
use Rattle.graph_builder.specs.declared.settle.Verdict.{Verdict}
use Rattle.graph_builder.specs.declared.settle.Verdict.TheVariants.{Kept, TooFar, Judged}
use Rattle.graph_builder.specs.declared.following.Following.{Following}
use Rattle.graph_builder.specs.Rules.{edges_of, Means, rules_of, rules_by}
use Rattle.graph_builder.specs.Reach.{Specifier, Rules}
use Rattle.graph_builder.specs.Graph.{redirected, on_from, resolved_over, module_at}
use Rattle.graph_builder.specs.Final.{with_edges}
use Rattle.graph_builder.specs.Settling.{led, leads_on, unfit, unfit_at, misfit, none_refused, is_kept, all_kept, verdict_of, settled_edge, judged_edges, judged, all_judged, IsVerdictOn, values_of, settled, finals_of}

-- ---- redirects, step by step

fewer : (most i : ℕ) → i < most → most - i ≡ suc (most - (i + 1))
fewer most i within = omega arith

-- one step more of those that are left
pub led_on : (next : Specifier → Option Specifier) (most i : ℕ) (at to : Specifier) (whole : Option Specifier)
    → i < most → next at ≡ Some to
    → led next (most - i) at ≡ whole → led next (most - (i + 1)) to ≡ whole
led_on next most i at to whole within goes so_far =
    sym (ap (λ (n : ℕ). led next n at) (fewer most i within) ∙ ap (option_and_then (led next (most - (i + 1)))) goes)
    ∙ so_far

pub led_ends : (next : Specifier → Option Specifier) (most i : ℕ) (at : Specifier) (whole : Option Specifier)
    → i < most → next at ≡ None
    → led next (most - i) at ≡ whole → whole ≡ None
led_ends next most i at whole within ends so_far =
    sym so_far ∙ ap (λ (n : ℕ). led next n at) (fewer most i within)
    ∙ ap (option_and_then (led next (most - (i + 1)))) ends

-- after the last of them
pub led_whole : (next : Specifier → Option Specifier) (most i : ℕ) (at : Specifier) (whole : Option Specifier)
    → most ≤ i
    → led next (most - i) at ≡ whole → whole ≡ Some at
led_whole next most i at whole over so_far = sym so_far ∙ ap (λ (n : ℕ). led next n at) (none over)
  where
    none : most ≤ i → most - i ≡ 0
    none h = omega arith

-- the same for where redirects lead
pub resolved_on : (entries : List (Parts × Entry)) (most i : ℕ) (at to whole : Specifier) → i < most
    → redirected entries at ≡ Some to
    → resolved_over entries (most - i) at ≡ whole → resolved_over entries (most - (i + 1)) to ≡ whole
resolved_on entries most i at to whole within goes so_far =
    sym (ap (λ (n : ℕ). resolved_over entries n at) (fewer most i within)
    ∙ ap (on_from at (resolved_over entries (most - (i + 1)))) goes) ∙ so_far

pub resolved_ends : (entries : List (Parts × Entry)) (most i : ℕ) (at whole : Specifier) → i < most
    → redirected entries at ≡ None
    → resolved_over entries (most - i) at ≡ whole → at ≡ whole
resolved_ends entries most i at whole within ends so_far =
    sym (ap (λ (n : ℕ). resolved_over entries n at) (fewer most i within)
    ∙ ap (on_from at (resolved_over entries (most - (i + 1)))) ends) ∙ so_far

pub resolved_whole : (entries : List (Parts × Entry)) (most i : ℕ) (at whole : Specifier) → most ≤ i
    → resolved_over entries (most - i) at ≡ whole → at ≡ whole
resolved_whole entries most i at whole over so_far =
    sym (ap (λ (n : ℕ). resolved_over entries n at) (none over)) ∙ so_far
  where
    none : most ≤ i → most - i ≡ 0
    none h = omega arith

-- ---- an edge, by the module at its end

pub unfit_found : (b : Bool) (firsts : List (Parts × Entry)) (d : Dependency) (url target : Parts)
    (found : Option Module)
    → found ≡ module_at firsts (text_of url) → url ≡ target → d.resolution ≡ Ok target
    → unfit b d found ≡ unfit_at b firsts d d.resolution
unfit_found b firsts d url target found at same is =
    ap (unfit b d) (at ∙ ap (λ (u : Parts). module_at firsts (text_of u)) same)
    ∙ sym (ap (λ (r : Resolved). unfit_at b firsts d r) is)

-- ---- a list beside another

module _ {X V : Type 0} where
  -- the value at the next place is that of the next item
  pub value_here : (h : X → V) (yielded : List X) (item : X) (rest : List X) (n : ℕ) (d : V) → n ≡ length yielded
      → get_or (map h (yielded ++ item ∷ rest)) n d ≡ h item
  value_here h [] item rest n d is = rw is refl
  value_here h (y ∷ ys) item rest n d is = rw is (value_here h ys item rest (length ys) d refl)

  pub place_here : (h : X → V) (yielded : List X) (item : X) (rest : List X) (n : ℕ) → n ≡ length yielded
      → n < length (map h (yielded ++ item ∷ rest))
  place_here h yielded item rest n is =
      omega (arith, is, length-map (yielded ++ item ∷ rest) h, length-append yielded (item ∷ rest))

-- ---- verdicts

-- the edges with their answers are the edges with what is answered of each
edges_judged : (f : Dependency → Option Unfit) (ds : List Dependency)
    → judged_edges (map f ds) ds ≡ map (λ d. settled_edge (f d) d) ds
edges_judged f [] = refl
edges_judged f (d ∷ ds) = ap (λ (es : List Dependency). settled_edge (f d) d ∷ es) (edges_judged f ds)

-- edges of which none is refused stay
edges_fit : (f : Dependency → Option Unfit) (ds : List Dependency) → none_refused (map f ds) ≡ true
    → map (λ d. settled_edge (f d) d) ds ≡ ds
edges_fit f [] h = refl
edges_fit f (d ∷ ds) h = by (f d) (edges_fit f ds) h
  where
    by : (u : Option Unfit) → (none_refused (map f ds) ≡ true → map (λ e. settled_edge (f e) e) ds ≡ ds)
        → (is_none u && none_refused (map f ds)) ≡ true
        → settled_edge u d ∷ map (λ e. settled_edge (f e) e) ds ≡ d ∷ ds
    by None rest h = ap (λ (es : List Dependency). d ∷ es) (rest h)
    by (Some x) rest h = absurd cc

same_edges : (m : Module) → with_edges m (edges_of m) ≡ m
same_edges (Js m) = refl
same_edges (Json m) = refl
same_edges (Wasm m) = refl

-- what the verdict on an entry makes of it is what becomes of it
pub judged_settled : (rules : Rules) (firsts : List (Parts × Entry)) (e : Entry)
    → judged (verdict_of rules firsts e) e ≡ settled rules firsts e
judged_settled rules firsts (entry.Redirect target) = by (leads_on firsts (text_of target))
  where
    by : (b : Bool) → judged (if b then TooFar else Kept) (entry.Redirect target)
        ≡ (if b then entry.Error (TooManyRedirects target) else entry.Redirect target)
    by true = refl
    by false = refl
judged_settled rules firsts (entry.Module m) = by (none_refused refused) refl
  where
    refused : List (Option Unfit)
    refused = map (misfit rules firsts m) (edges_of m)

    by : (b : Bool) → none_refused refused ≡ b → judged (if b then Kept else Judged refused) (entry.Module m)
        ≡ entry.Module (with_edges m (map (λ d. settled_edge (misfit rules firsts m d) d) (edges_of m)))
    by true h = sym (ap (λ (es : List Dependency). entry.Module (with_edges m es))
        (edges_fit (misfit rules firsts m) (edges_of m) h) ∙ ap (λ (x : Module). entry.Module x) (same_edges m))
    by false h =
        ap (λ (es : List Dependency). entry.Module (with_edges m es))
        (edges_judged (misfit rules firsts m) (edges_of m))
judged_settled rules firsts (entry.Package held) = refl
judged_settled rules firsts entry.External = refl
judged_settled rules firsts (entry.Error e) = refl

-- it has a place for each edge
pub verdict_on : (rules : Rules) (firsts : List (Parts × Entry)) (e : Entry) → IsVerdictOn (verdict_of rules firsts e) e
verdict_on rules firsts (entry.Redirect target) = by (leads_on firsts (text_of target))
  where
    by : (b : Bool) → IsVerdictOn (if b then TooFar else Kept) (entry.Redirect target)
    by true = tt
    by false = tt
verdict_on rules firsts (entry.Module m) = by (none_refused (map (misfit rules firsts m) (edges_of m)))
  where
    by : (b : Bool) → IsVerdictOn (if b then Kept else Judged (map (misfit rules firsts m) (edges_of m)))
        (entry.Module m)
    by true = tt
    by false = length-map (edges_of m) (misfit rules firsts m)
verdict_on rules firsts (entry.Package held) = tt
verdict_on rules firsts entry.External = tt
verdict_on rules firsts (entry.Error e) = tt

-- entries that all stay are those of the graph
pub kept_finals : (rules : Rules) (firsts : List (Parts × Entry)) (verdicts : List Verdict)
    → verdicts ≡ map (verdict_of rules firsts) (values_of firsts) → all_kept verdicts ≡ true
    → firsts ≡ finals_of rules firsts
kept_finals rules firsts verdicts are kept =
    sym (all_stay firsts (ap all_kept (sym are) ∙ kept))
  where
    kept_of : (v : Verdict) → is_kept v ≡ true → v ≡ Kept
    kept_of Kept h = refl
    kept_of TooFar h = absurd cc
    kept_of (Judged refused) h = absurd cc

    stays : (e : Entry) → is_kept (verdict_of rules firsts e) ≡ true → settled rules firsts e ≡ e
    stays e h =
        sym (judged_settled rules firsts e) ∙ ap (λ (v : Verdict). judged v e) (kept_of (verdict_of rules firsts e) h)

    all_stay : (es : List (Parts × Entry)) → all_kept (map (verdict_of rules firsts) (values_of es)) ≡ true
        → map (λ (e : Parts × Entry). (e.0, settled rules firsts e.1)) es ≡ es
    all_stay [] h = refl
    all_stay (e ∷ es) h = by (is_kept (verdict_of rules firsts e.1)) (stays e.1) (all_stay es) h
      where
        by : (b : Bool) → (b ≡ true → settled rules firsts e.1 ≡ e.1)
            → (all_kept (map (verdict_of rules firsts) (values_of es)) ≡ true
            → map (λ (f : Parts × Entry). (f.0, settled rules firsts f.1)) es ≡ es)
            → (b && all_kept (map (verdict_of rules firsts) (values_of es))) ≡ true
            → (e.0, settled rules firsts e.1) ∷ map (λ (f : Parts × Entry). (f.0, settled rules firsts f.1)) es ≡ e ∷ es
        by true one rest h =
            ap₂ (λ (x : Entry) (xs : List (Parts × Entry)). (e.0, x) ∷ xs) (one refl) (rest h)
        by false one rest h = absurd cc

-- ---- edges, one by one

pub edges_more : (refused : List (Option Unfit)) (yielded : List Dependency) (edge : Dependency) (d : Option Unfit)
    → length yielded < length refused
    → judged_edges (take (length (yielded ++ edge ∷ [])) refused) (yielded ++ edge ∷ [])
    ≡ judged_edges (take (length yielded) refused) yielded ++ settled_edge (get_or refused (length yielded) d) edge ∷ []
edges_more [] yielded edge d within = absurd (omega (arith, within))
edges_more (b ∷ bs) [] edge d within = refl
edges_more (b ∷ bs) (y ∷ ys) edge d within =
    ap (λ (es : List Dependency). settled_edge b y ∷ es) (edges_more bs ys edge d (omega (arith, within)))

-- the next place of a list is one of a list as long
pub place_now : {A : Type 0} (whole yielded rest : List A) (item : A) (n m : ℕ) → whole ≡ yielded ++ item ∷ rest
    → n ≡ length yielded → m ≡ length whole → n < m
place_now whole yielded rest item n m is here long =
    omega (arith, here, long, ap length is, length-append yielded (item ∷ rest), tail)
  where
    tail : length (item ∷ rest) ≡ length rest + 1
    tail = omega arith

-- the value there is that of the item
pub value_now : {X V : Type 0} (h : X → V) (whole yielded rest : List X) (item : X) (values : List V) (n : ℕ) (d : V)
    → values ≡ map h whole → whole ≡ yielded ++ item ∷ rest → n ≡ length yielded → get_or values n d ≡ h item
value_now h whole yielded rest item values n d are is here =
    ap (λ (vs : List _). get_or vs n d) (are ∙ ap (map h) is) ∙ value_here h yielded item rest n d here

-- values that were changed one by one beside their keys
pub zip_mapped : {K V W : Type 0} (f : V → W) (ks : List K) (vs : List V)
    → zip ks (map f vs) ≡ map (λ (e : K × V). (e.0, f e.1)) (zip ks vs)
zip_mapped f [] vs = refl
zip_mapped f (k ∷ ks) [] = refl
zip_mapped f (k ∷ ks) (v ∷ vs) = ap (λ es. (k, f v) ∷ es) (zip_mapped f ks vs)

-- the values beside keys
pub values_zip : {K V : Type 0} (ks : List K) (vs : List V) → length ks ≡ length vs
    → map (λ (e : K × V). e.1) (zip ks vs) ≡ vs
values_zip [] [] h = refl
values_zip [] (v ∷ vs) h = absurd (omega arith)
values_zip (k ∷ ks) [] h = absurd (omega arith)
values_zip (k ∷ ks) (v ∷ vs) h = ap (λ ws. v ∷ ws) (values_zip ks vs (omega arith))

-- one more of what a function gives for two lists, one by one
zipped_more : {A B C : Type 0} (f : A → B → C) (xs : List A) (yielded : List B) (item : B) (d : A)
    → length yielded < length xs
    → map (λ (p : A × B). f p.0 p.1) (zip (take (length (yielded ++ item ∷ [])) xs) (yielded ++ item ∷ []))
    ≡ map (λ (p : A × B). f p.0 p.1) (zip (take (length yielded) xs) yielded) ++ f (get_or xs (length yielded) d) item
    ∷ []
zipped_more f [] yielded item d within = absurd (omega (arith, within))
zipped_more f (x ∷ xs) [] item d within = refl
zipped_more f (x ∷ xs) (y ∷ ys) item d within =
    ap (λ cs. f x y ∷ cs) (zipped_more f xs ys item d (omega (arith, within)))

-- one more entry by its verdict
pub judged_push : (verdicts : List Verdict) (values yielded rest made new : List Entry) (first becomes : Entry)
    (verdict d : Verdict) (n : ℕ)
    → made ≡ all_judged (take (length yielded) verdicts) yielded → length made ≡ length yielded
    → values ≡ yielded ++ first ∷ rest → length verdicts ≡ length values → n ≡ length made
    → verdict ≡ get_or verdicts n d → becomes ≡ judged verdict first → new ≡ made ++ becomes ∷ []
    → (new ≡ all_judged (take (length (yielded ++ first ∷ [])) verdicts) (yielded ++ first ∷ []))
    × (length new ≡ length (yielded ++ first ∷ []))
judged_push verdicts values yielded rest made new first becomes verdict d n so_far counted whole long here value is
    longer = (
      longer ∙ ap (λ (es : List Entry). es ++ becomes ∷ []) so_far
          ∙ ap (λ (e : Entry). all_judged (take (length yielded) verdicts) yielded ++ e ∷ [])
          (is ∙ ap (λ (v : Verdict). judged v first)
          (value ∙ ap (λ (k : ℕ). get_or verdicts k d) (here ∙ counted)))
          ∙ sym (zipped_more judged verdicts yielded first d
          (place_now values yielded rest first (length yielded) (length verdicts) whole refl long)),
      ap length longer ∙ length-append made (becomes ∷ []) ∙ ap (λ (k : ℕ). k + 1) counted
          ∙ sym (length-append yielded (first ∷ [])),
    )

-- all of them
pub judged_whole : (verdicts : List Verdict) (values made : List Entry) → length verdicts ≡ length values
    → made ≡ all_judged (take (length values) verdicts) values → made ≡ all_judged verdicts values
judged_whole verdicts values made long is =
    is ∙ ap (λ (vs : List Verdict). all_judged vs values) (take_all (length values) verdicts (omega (arith, long)))

-- the item at the next place
pub next_there : {A : Type 0} (whole yielded rest : List A) (item : A) (n : ℕ) → whole ≡ yielded ++ item ∷ rest
    → n ≡ length yielded → slice_get whole n ≡ Some item
next_there {A} whole yielded rest item n is here =
    ap (λ (l : List A). slice_get l n) is ∙ ap (slice_get (yielded ++ item ∷ rest)) here ∙ at yielded
  where
    at : (ys : List A) → slice_get (ys ++ item ∷ rest) (length ys) ≡ Some item
    at [] = refl
    at (y ∷ ys) = at ys

-- what stands at a place within
pub value_there : {A : Type 0} (xs : List A) (n : ℕ) (x d : A) → n < length xs → x ≡ get_or xs n d
    → slice_get xs n ≡ Some x
value_there [] n x d within is = absurd (omega (arith, within))
value_there (y ∷ ys) zero x d within is = ap Some (sym is)
value_there (y ∷ ys) (suc n) x d within is = value_there ys n x d (omega (arith, within)) is

-- verdicts by the rules are verdicts on their entries
pub verdicts_each : (rules : Rules) (firsts : List (Parts × Entry)) (verdicts : List Verdict) (values : List Entry)
    → verdicts ≡ map (verdict_of rules firsts) values → (i : ℕ) (v : Verdict) (e : Entry)
    → slice_get verdicts i ≡ Some v → slice_get values i ≡ Some e → IsVerdictOn v e
verdicts_each rules firsts verdicts values is i v e at there =
    by values i (ap (λ (vs : List Verdict). slice_get vs i) (sym is) ∙ at) there
  where
    one : {A : Type 0} (x y : A) → Some x ≡ Some y → x ≡ y
    one x y h = cc

    by : (es : List Entry) (n : ℕ) → slice_get (map (verdict_of rules firsts) es) n ≡ Some v → slice_get es n ≡ Some e
        → IsVerdictOn v e
    by [] n h g = absurd cc
    by (f ∷ es) zero h g =
        subst (λ (w : Verdict). IsVerdictOn w e)
        (ap (verdict_of rules firsts) (sym (one f e g)) ∙ one (verdict_of rules firsts f) v h)
        (verdict_on rules firsts e)
    by (f ∷ es) (suc n) h g = by es n h g

judged_mapped : (rules : Rules) (firsts : List (Parts × Entry)) (es : List Entry)
    → all_judged (map (verdict_of rules firsts) es) es ≡ map (settled rules firsts) es
judged_mapped rules firsts [] = refl
judged_mapped rules firsts (e ∷ es) =
    ap (λ (x : Entry). x ∷ all_judged (map (verdict_of rules firsts) es) es) (judged_settled rules firsts e)
    ∙ ap (λ (xs : List Entry). settled rules firsts e ∷ xs) (judged_mapped rules firsts es)

-- so many entries
pub judged_even : (verdicts : List Verdict) (ks : List Parts) (values entries : List Entry)
    → length ks ≡ length values → length verdicts ≡ length values → entries ≡ all_judged verdicts values
    → length ks ≡ length entries
judged_even verdicts ks values entries even long is =
    even ∙ sym (by verdicts values long) ∙ sym (ap length is)
  where
    by : (vs : List Verdict) (es : List Entry) → length vs ≡ length es → length (all_judged vs es) ≡ length es
    by [] [] h = refl
    by [] (e ∷ es) h = absurd (omega (arith, h))
    by (v ∷ vs) [] h = absurd (omega (arith, h))
    by (v ∷ vs) (e ∷ es) h = ap suc (by vs es (omega (arith, h)))

-- all entries are settled
pub settled_whole : (rules : Rules) (firsts : List (Parts × Entry)) (verdicts : List Verdict) (ks : List Parts)
    (vs entries : List Entry)
    → length ks ≡ length vs → zip ks vs ≡ firsts
    → verdicts ≡ map (verdict_of rules firsts) (values_of firsts) → entries ≡ all_judged verdicts vs
    → zip ks entries ≡ finals_of rules firsts
settled_whole rules firsts verdicts ks vs entries even is by_rules all =
    ap (zip ks) (all ∙ ap (λ (ws : List Verdict). all_judged ws vs)
    (by_rules ∙ ap (map (verdict_of rules firsts)) (sym (ap values_of is) ∙ values_zip ks vs even))
    ∙ judged_mapped rules firsts vs)
    ∙ zip_mapped (settled rules firsts) ks vs
    ∙ ap (map (λ (e : Parts × Entry). (e.0, settled rules firsts e.1))) is

-- verdicts on entries are as many
pub verdicts_even : (rules : Rules) (firsts : List (Parts × Entry)) (verdicts : List Verdict) (ks : List Parts)
    (vs : List Entry) → length ks ≡ length vs → zip ks vs ≡ firsts
    → verdicts ≡ map (verdict_of rules firsts) (values_of firsts) → verdicts ≡ map (verdict_of rules firsts) vs
verdicts_even rules firsts verdicts ks vs even is by_rules =
    by_rules ∙ ap (map (verdict_of rules firsts)) (sym (ap values_of is) ∙ values_zip ks vs even)

-- one more edge by its answer
pub edges_push : (refused : List (Option Unfit)) (edges yielded rest made new : List Dependency)
    (edge settled_one : Dependency) (unfit d : Option Unfit) (n : ℕ)
    → made ≡ judged_edges (take (length yielded) refused) yielded → length made ≡ length yielded
    → edges ≡ yielded ++ edge ∷ rest
    → length refused ≡ length edges → n ≡ length made → unfit ≡ get_or refused n d
    → settled_one ≡ settled_edge unfit edge
    → new ≡ made ++ settled_one ∷ []
    → (new ≡ judged_edges (take (length (yielded ++ edge ∷ [])) refused) (yielded ++ edge ∷ []))
    × (length new ≡ length (yielded ++ edge ∷ []))
edges_push refused edges yielded rest made new edge settled_one unfit d n so_far counted whole long here value
    settles longer = (
      longer ∙ ap (λ (ds : List Dependency). ds ++ settled_one ∷ []) so_far
          ∙ ap (λ (x : Dependency). judged_edges (take (length yielded) refused) yielded ++ x ∷ [])
          (settles ∙ ap (λ (u : Option Unfit). settled_edge u edge)
          (value ∙ ap (λ (k : ℕ). get_or refused k d) (here ∙ counted)))
          ∙ sym (edges_more refused yielded edge d
          (place_now edges yielded rest edge (length yielded) (length refused) whole refl long)),
      ap length longer ∙ length-append made (settled_one ∷ []) ∙ ap (λ (k : ℕ). k + 1) counted
          ∙ sym (length-append yielded (edge ∷ [])),
    )

-- all of them
pub edges_whole : (refused : List (Option Unfit)) (edges made : List Dependency) → length refused ≡ length edges
    → made ≡ judged_edges (take (length edges) refused) edges → made ≡ judged_edges refused edges
edges_whole refused edges made long is =
    is ∙ ap (λ (us : List (Option Unfit)). judged_edges us edges)
    (take_all (length edges) refused (omega (arith, long)))

-- ---- what becomes of entries is told by which edges are followed

settled_by : (means : Means) (f : Following) (firsts : List (Parts × Entry)) (e : Entry)
    → settled (rules_of f) firsts e ≡ settled (rules_by means f) firsts e
settled_by means f firsts (entry.Redirect target) = refl
settled_by means f firsts (entry.Module m) = refl
settled_by means f firsts (entry.Package held) = refl
settled_by means f firsts entry.External = refl
settled_by means f firsts (entry.Error e) = refl

each_by : (means : Means) (f : Following) (firsts rest : List (Parts × Entry))
    → map {B = Parts × Entry} (λ (e : Parts × Entry). (e.0, settled (rules_of f) firsts e.1)) rest
    ≡ map (λ (e : Parts × Entry). (e.0, settled (rules_by means f) firsts e.1)) rest
each_by means f firsts [] = refl
each_by means f firsts (e ∷ rest) =
    ap (λ (x : Entry). (e.0, x)
    ∷ map {B = Parts × Entry} (λ (r : Parts × Entry). (r.0, settled (rules_of f) firsts r.1)) rest)
    (settled_by means f firsts e.1)
    ∙ ap (λ (rs : List (Parts × Entry)). (e.0, settled (rules_by means f) firsts e.1) ∷ rs)
    (each_by means f firsts rest)

pub finals_by : (means : Means) (f : Following) (firsts : List (Parts × Entry))
    → finals_of (rules_of f) firsts ≡ finals_of (rules_by means f) firsts
finals_by means f firsts = each_by means f firsts firsts
