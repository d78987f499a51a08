-- The edition of a text before and after trees.
use Rattle.std.proofs.Common.{◌≡◌, Bool, true, false, ◌||◌, ◌&&◌, refl}
use Rattle.cert_text.specs.declared.states.Edition.{Edition}
use Rattle.cert_text.specs.declared.states.Edition.TheVariants.{One, Lacking, Two}
use Rattle.cert_text.specs.declared.versions.Version.{Version}
use Rattle.cert_text.specs.declared.versions.Version.TheVariants as versions
use Rattle.cert_text.specs.internal.ReadStates.{may_split}

abbrev pub title_of : Edition → Version
title_of One = versions.One
title_of Lacking = versions.Two
title_of Two = versions.Two

-- Whether an integer split has been read.
abbrev pub splits : Edition → Bool
splits One = false
splits Lacking = false
splits Two = true

-- Version 1 has no integer split.
abbrev pub IsAllowed : Edition → Bool → Type 0
IsAllowed One w = w ≡ false
IsAllowed Lacking w = Unit {0}
IsAllowed Two w = Unit {0}

-- The edition after a tree, which has an integer split or not.
abbrev pub passed : Edition → Bool → Edition
passed One w = One
passed Lacking true = Two
passed Lacking false = Lacking
passed Two w = Two

pub passed_same : (e : Edition) → passed e false ≡ e
passed_same One = refl
passed_same Lacking = refl
passed_same Two = refl

pub passed_twice : (e : Edition) (a b : Bool) → passed (passed e a) b ≡ passed e (a || b)
passed_twice One a b = refl
passed_twice Lacking true b = refl
passed_twice Lacking false b = refl
passed_twice Two a b = refl

pub allowed_first : (e : Edition) (a b : Bool) → IsAllowed e (a || b) → IsAllowed e a
allowed_first One true b h = h
allowed_first One false b h = refl
allowed_first Lacking a b h = tt
allowed_first Two a b h = tt

pub allowed_second : (e : Edition) (a b : Bool) → IsAllowed e (a || b) → IsAllowed (passed e a) b
allowed_second One true b h = absurd (cc)
allowed_second One false b h = h
allowed_second Lacking true b h = tt
allowed_second Lacking false b h = tt
allowed_second Two a b h = tt

pub begins_with : (e : Edition) (b : Bool) → IsAllowed e true → b ≡ true → (may_split e && b) ≡ true
begins_with One b h r = absurd (cc)
begins_with Lacking b h r = r
begins_with Two b h r = r

pub ends_in : (e : Edition) → IsAllowed e true → Two ≡ passed e true
ends_in One h = absurd (cc)
ends_in Lacking h = refl
ends_in Two h = refl
