-- The words are `vendor` and the URL of a folder.
use Rattle.std.proofs.Common.{List, ℕ, [], ◌∷◌, sym, subst}
use Rattle.std.specs.Prelude.{IfOk, MatchOption}
use Rattle.url.specs.Parts.{Parts}
use Rattle.vendor_run.specs.Words.{IsVendor}
use Rattle.vendor_run.proofs.words.named_folder.Goals as goal

pub returns-in-vendor-clause-folder : goal.returns-in-vendor-clause-folder
returns-in-vendor-clause-folder c =
    subst (λ (w : List ℕ). IfOk c.folder_at.result (λ found. MatchOption found
    ((url : Parts) → ¬ IsVendor url (w ∷ c.args.base.now ∷ [])) (λ url. IsVendor url (w ∷ c.args.base.now ∷ []))))
    (sym c.in-vendor.is) c.folder_at.ensures
