-- The JSON value of the bundle that is written of a plan (this project's profile).
use Rattle.std.specs.Prelude.{ℕ, true, List, [], ◌∷◌, codes, Option, Some, None}
use Rattle.serde_json.specs.Data.{Data, boolean, number, string, array, object, unsigned, Items, no_items, item, no_members, member}
use Rattle.base64.specs.Engines.{standard}
use Rattle.base64.specs.GeneralPurpose.{encode_of}
use Rattle.url.specs.Parts.{Parts}
use Rattle.graph_entry.specs.Specifier.{text_of}
use Rattle.graph_vendor.specs.declared.plan.VendorPlan.{VendorPlan}
use Rattle.vendor_files.specs.declared.file.VendorFile.{VendorFile}
use Rattle.vendor_report.specs.declared.wanted.Wanted.{Wanted}
use Rattle.vendor_report.specs.Plans.{plain_text, kind_word}

-- the values of a list's elements, in front of others
abbrev pub items_onto : {X : Type 0} → (X → Data) → List X → Items → Items
items_onto f [] rest = rest
items_onto f (x ∷ xs) rest = item (f x) (items_onto f xs rest)

abbrev pub url_value : Parts → Data
url_value url = string (text_of url)

-- the module of a file: its text, or its bytes in base64
abbrev pub file_value_by : VendorFile → Option (List ℕ) → Data
file_value_by file (Some text) =
    object (member (codes "specifier") (url_value file.target) (member (codes "text") (string text) no_members))
file_value_by file None =
    object (member (codes "base64") (string (encode_of standard file.bytes))
    (member (codes "specifier") (url_value file.target) no_members))

abbrev pub file_value : VendorFile → Data
file_value file = file_value_by file (plain_text file)

-- the module that isn't part of the sources
abbrev pub external_value : Parts → Data
external_value url =
    object (member (codes "external") (boolean true) (member (codes "specifier") (url_value url) no_members))

abbrev pub modules_value : VendorPlan → Items
modules_value plan = items_onto file_value plan.files (items_onto external_value plan.externals no_items)

abbrev pub roots_value : VendorPlan → Items
roots_value plan = items_onto url_value plan.roots no_items

abbrev pub plan_value : Wanted → VendorPlan → Data
plan_value wanted plan =
    object (member (codes "kind") (string (kind_word wanted.kind))
    (member (codes "limit") (number (unsigned wanted.limit))
    (member (codes "modules") (array (modules_value plan))
    (member (codes "roots") (array (roots_value plan))
    (member (codes "skipDynamicDeps") (boolean wanted.skip_dynamic_deps) no_members)))))
