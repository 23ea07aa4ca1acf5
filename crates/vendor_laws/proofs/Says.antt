-- What the value of a plan's bundle says.
use Rattle.std.proofs.Common.{◌≡◌, ◌∙◌, refl, sym, ap, subst, ℕ, suc, ◌+◌, ◌≤◌, Bool, true, false, ◌||◌, List, [], ◌∷◌, ◌++◌, Ok, None, Some, Option, arith, append_assoc}
use Rattle.std.specs.Prelude.{codes, nat_lt, map, if◌then◌else◌}
use Rattle.std.specs.List.{AllByRecursion}
use Rattle.std.proofs.lemmas.Bool.{lt-leb}
use Rattle.std.proofs.lemmas.Option.{none-some, same_Some}
use Rattle.base64.specs.Engines.{standard}
use Rattle.base64.specs.GeneralPurpose.{encode_of, decode_of, IsBytes}
use Rattle.base64.proofs.EngineFacts.{decode_of-encode_of}
use Rattle.serde_json.specs.Data.{Data, Items, no_items, string}
use Rattle.url.specs.Parts.{Parts}
use Rattle.url.specs.Parser.{parse_url}
use Rattle.file_url.specs.canonical_url.OwnText.{ReadsAsItself}
use Rattle.import_map.specs.json_reading.Reading.{url_of, each_of, each_from, required, under, before, items_list, or_here, optional, bool_of}
use Rattle.graph_entry.specs.declared.answer.LoadAnswer.{LoadAnswer}
use Rattle.graph_entry.specs.declared.answer.LoadAnswer.TheVariants.{Content, External}
use Rattle.graph_entry.specs.declared.kind.GraphKind.{GraphKind}
use Rattle.graph_entry.specs.declared.kind.GraphKind.TheVariants.{All, CodeOnly, TypesOnly}
use Rattle.graph_entry.specs.Specifier.{text_of}
use Rattle.graph_builder.specs.Reach.{Specifier, has}
use Rattle.graph_bundle.specs.Bundle.{module_after, modules_from, modules_of, options_of, kind_of, highest_limit, bundle_of}
use Rattle.graph_vendor.specs.declared.plan.VendorPlan.{VendorPlan}
use Rattle.graph_vendor.specs.Plan.{targets_of}
use Rattle.graph_vendor.specs.vendored.Vendored.{content_of}
use Rattle.vendor_files.specs.declared.file.VendorFile.{VendorFile}
use Rattle.vendor_report.specs.declared.wanted.Wanted.{Wanted}
use Rattle.vendor_report.specs.Plans.{is_coded, plain_text, kind_word}
use Rattle.vendor_laws.specs.Written.{items_onto, url_value, file_value_by, file_value, external_value, modules_value, roots_value, plan_value}
use Rattle.vendor_run.specs.Readable.{target_of, HasBytes, IsReadable}
use Rattle.vendor_laws.specs.Bundle.{outside_at, modules_at, bundle_at}
use Rattle.vendor_laws.proofs.Fresh.{AreFresh}

-- ---- URLs

abbrev TargetReads : VendorFile → Type 0
TargetReads file = ReadsAsItself file.target

-- those of the files, and the others
of_files : (files : List VendorFile) (urls : List Parts) → AllByRecursion ReadsAsItself (map target_of files ++ urls)
    → AllByRecursion TargetReads files × AllByRecursion ReadsAsItself urls
of_files [] urls all = (tt, all)
of_files (file ∷ files) urls all = let (own, rest) = of_files files urls all.1 in ((all.0, own), rest)

two_parts : (xs ys : List Parts) → AllByRecursion ReadsAsItself (xs ++ ys)
    → AllByRecursion ReadsAsItself xs × AllByRecursion ReadsAsItself ys
two_parts [] ys all = (tt, all)
two_parts (x ∷ xs) ys all = let (own, rest) = two_parts xs ys all.1 in ((all.0, own), rest)

pub read_again : (url : Parts) → ReadsAsItself url → parse_url None (text_of url) ≡ Ok url
unfolding text_of
read_again url own = own

roots_from : (urls : List Parts) (place : ℕ) → AllByRecursion ReadsAsItself urls
    → each_from url_of place (items_list (items_onto url_value urls no_items)) ≡ Ok urls
roots_from [] place all = refl
roots_from (url ∷ urls) place all =
    rw (read_again url all.0) (ap (before url) (roots_from urls (place + 1) all.1))

-- ---- one module

decoded : (bytes : List ℕ) → IsBytes bytes → decode_of standard (encode_of standard bytes) ≡ Ok bytes
decoded bytes h = decode_of-encode_of standard bytes refl h

file_said_by : (file : VendorFile) (earlier : List Specifier) (text : Option (List ℕ)) → TargetReads file
    → HasBytes file → has earlier (text_of file.target) ≡ false → ((t : List ℕ) → text ≡ Some t → t ≡ file.bytes)
    → module_after earlier (file_value_by file text) ≡ Ok (content_of file)
file_said_by file earlier (Some text) own bytes new is =
    rw (read_again file.target own) (rw new (ap (λ (t : List ℕ). Ok (file.target, Content [] t)) (is text refl)))
file_said_by file earlier None own bytes new is =
    rw (read_again file.target own) (rw new (rw (decoded file.bytes bytes) refl))

plain_is : (file : VendorFile) (t : List ℕ) → plain_text file ≡ Some t → t ≡ file.bytes
unfolding plain_text
plain_is file t e = by (is_coded file) e
  where
    by : (b : Bool) → (if b then None else Some file.bytes) ≡ Some t → t ≡ file.bytes
    by true h = absurd (none-some t h)
    by false h = sym (same_Some file.bytes t h)

pub file_said : (file : VendorFile) (earlier : List Specifier) → TargetReads file → HasBytes file
    → has earlier (text_of file.target) ≡ false → module_after earlier (file_value file) ≡ Ok (content_of file)
file_said file earlier own bytes new =
    file_said_by file earlier (plain_text file) own bytes new (plain_is file)

pub external_said : (url : Parts) (earlier : List Specifier) → ReadsAsItself url
    → has earlier (text_of url) ≡ false → module_after earlier (external_value url) ≡ Ok (outside_at url)
external_said url earlier own new = rw (read_again url own) (rw new refl)

-- ---- all modules

externals_said : (urls : List Parts) (earlier : List Specifier) (place : ℕ) → AllByRecursion ReadsAsItself urls
    → AreFresh earlier (map text_of urls)
    → modules_from earlier place (items_list (items_onto external_value urls no_items)) ≡ Ok (map outside_at urls)
externals_said [] earlier place all new = refl
externals_said (url ∷ urls) earlier place all new =
    rw (external_said url earlier all.0 new.0)
    (ap (before (outside_at url)) (externals_said urls (earlier ++ text_of url ∷ []) (place + 1) all.1 new.1))

files_said : (files : List VendorFile) (urls : List Parts) (earlier : List Specifier) (place : ℕ)
    → AllByRecursion TargetReads files → AllByRecursion HasBytes files → AllByRecursion ReadsAsItself urls
    → AreFresh earlier (targets_of files ++ map text_of urls)
    → modules_from earlier place (items_list (items_onto file_value files (items_onto external_value urls no_items)))
    ≡ Ok (map content_of files ++ map outside_at urls)
files_said [] urls earlier place own bytes all new = externals_said urls earlier place all new
files_said (file ∷ files) urls earlier place own bytes all new =
    rw (file_said file earlier own.0 bytes.0 new.0)
    (ap (before (content_of file))
    (files_said files urls (earlier ++ text_of file.target ∷ []) (place + 1) own.1 bytes.1 all new.1))

-- ---- the whole

kind_said : (kind : GraphKind) → kind_of (string (kind_word kind)) ≡ Ok kind
kind_said All = refl
kind_said CodeOnly = refl
kind_said TypesOnly = refl

limited : (limit : ℕ) → 1 ≤ limit → limit ≤ highest_limit → (nat_lt limit 1 || nat_lt highest_limit limit) ≡ false
limited limit some few =
    rw (lt-leb (suc limit) 1 (omega (arith, some))) (lt-leb (suc highest_limit) limit (omega (arith, few)))

module _ (wanted : Wanted) (plan : VendorPlan) (readable : IsReadable wanted plan)
    (new : AreFresh [] (targets_of plan.files ++ map text_of plan.externals)) (some : 1 ≤ wanted.limit)
    (few : wanted.limit ≤ highest_limit) where
  abbrev reading : AllByRecursion TargetReads plan.files × AllByRecursion ReadsAsItself (plan.externals ++ plan.roots)
  reading = of_files plan.files (plan.externals ++ plan.roots) readable.names

  abbrev others : AllByRecursion ReadsAsItself plan.externals × AllByRecursion ReadsAsItself plan.roots
  others = two_parts plan.externals plan.roots reading.1

  roots_said : required (each_of url_of) (codes "roots") (plan_value wanted plan) ≡ Ok plan.roots
  roots_said = ap (under (codes "roots")) (roots_from plan.roots 0 others.1)

  options_said : options_of (plan_value wanted plan) ≡ Ok (bundle_at wanted plan).options
  options_said = rw (kind_said wanted.kind) (rw (limited wanted.limit some few) refl)

  list_said : required modules_of (codes "modules") (plan_value wanted plan) ≡ Ok (modules_at plan)
  list_said =
      ap (under (codes "modules"))
      (files_said plan.files plan.externals [] 0 reading.0 readable.bytes others.0 new)

  pub plan_says : bundle_of (plan_value wanted plan) ≡ Ok (bundle_at wanted plan)
  unfolding bundle_of
  plan_says = rw roots_said (rw options_said (rw list_said refl))
