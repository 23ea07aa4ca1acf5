-- Plans whose bundle is read as what it was written of (this project's profile).
use Rattle.std.specs.Prelude.{◌≡◌, ◌⊎◌, ℕ, List, [], ◌∷◌, ◌++◌, map, codes, Option, Some, None, IsUtf8}
use Rattle.std.specs.List.{AllByRecursion}
use Rattle.base64.specs.GeneralPurpose.{IsBytes}
use Rattle.url.specs.Parts.{Parts}
use Rattle.file_url.specs.canonical_url.OwnText.{ReadsAsItself}
use Rattle.graph_entry.specs.Specifier.{text_of}
use Rattle.graph_vendor.specs.declared.plan.VendorPlan.{VendorPlan}
use Rattle.vendor_files.specs.declared.file.VendorFile.{VendorFile}
use Rattle.vendor_report.specs.declared.wanted.Wanted.{Wanted}
use Rattle.vendor_report.specs.Plans.{plan_text}

abbrev pub target_of : VendorFile → Parts
target_of file = file.target

-- the specifiers that a plan's bundle names: the new names of the files, what isn't part of the sources, the roots
abbrev pub specifiers_in : VendorPlan → List Parts
specifiers_in plan = map target_of plan.files ++ (plan.externals ++ plan.roots)

-- the first that isn't what its own text is read as, if there is one
abbrev pub IsFirstUnread : List Parts → Option Parts → Type 0
IsFirstUnread [] found = found ≡ None
IsFirstUnread (name ∷ names) found =
    (¬ ReadsAsItself name × (found ≡ Some name)) ⊎ (ReadsAsItself name × IsFirstUnread names found)

-- each byte of the file is below 256
abbrev pub HasBytes : VendorFile → Type 0
HasBytes file = IsBytes file.bytes

-- what is written of the plan is a text, the files' bytes are such, and each specifier in it is what its own text is
-- read as
pub record IsReadable (wanted : Wanted) (plan : VendorPlan) : Type 0 where
  pub utf8 : IsUtf8 (plan_text wanted plan)
  pub bytes : AllByRecursion HasBytes plan.files
  pub names : AllByRecursion ReadsAsItself (specifiers_in plan)

-- the line of a specifier that isn't what its own text is read as
unfoldable pub unread_line : Parts → List ℕ
unread_line name = codes "error Vendor NameNotRead " ++ text_of name ++ codes "\n"
