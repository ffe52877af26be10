-- How far came what is made of a file for which memory was wanting.
use Rattle.std.proofs.Common.{◌≡◌, ℕ, Bool, true, false, List, [], ◌∷◌, refl, ap, ap₂, subst, ◌∙◌, inl, inr}
use Rattle.std.specs.Prelude.{chars, Ok, Err}
use Rattle.std.specs.declared.result.Result.{Result}
use Rattle.text_coding.specs.declared.form.Loaded.{Loaded}
use Rattle.text_coding.specs.declared.form.DecodeError.{DecodeError}
use Rattle.kak_ports.specs.declared.sink.Put.TheVariants as put
use Rattle.scope_tables.specs.declared.names.HookName.TheVariants.{BufWritePost}
use Rattle.kak_world.specs.declared.ask.Saving.{Saving}
use Rattle.kak_world.specs.declared.events.HookEvent.{HookEvent}
use Rattle.kak_world.specs.Events.{event_of, has_hooks, noted, WantsEvents}
use Rattle.kak_world.specs.Flat.{Flat}
use Rattle.kak_world.specs.Showing.{first_gap, buffer_opened, shows}
use Rattle.command_set.specs.Files.{formatted, loaded_as, loaded_noted, made_empty, made_noted, marked_if_own, behind_write, row_saved}
use Rattle.command_set.specs.Wanting.{IsPartOfFormat, IsPartOfLoad, IsPartOfEmpty, IsPartOfLoaded, IsPartOfSaved}
use Rattle.command_set.proofs.NotingLaws.{wants_noted, wants_as}

-- a buffer that was opened, whose form is set in part
pub part-form : (name : List ℕ) (l : Loaded) (n : ℕ) (mid old new : Flat) → n ≡ first_gap old.buffers → mid ≡ buffer_opened (chars name) true l.text old → IsPartOfFormat n l.eol mid new → (who : ℕ) → IsPartOfLoad name l who old new
part-form name l n mid old new e m p who =
    inr (inl (subst (λ k. IsPartOfFormat k l.eol (buffer_opened (chars name) true l.text old) new) e (subst (λ (x : Flat). IsPartOfFormat n l.eol x new) m p)))

-- and one whose form is set, which isn't shown
pub part-unshown : (name : List ℕ) (l : Loaded) (n : ℕ) (mid old new : Flat) → n ≡ first_gap old.buffers → mid ≡ buffer_opened (chars name) true l.text old → new ≡ formatted n l.eol l.bom mid → (who : ℕ) → IsPartOfLoad name l who old new
part-unshown name l n mid old new e m f who =
    inr (inr (f ∙ ap (λ (x : Flat). formatted n l.eol l.bom x) m ∙ ap (λ k. formatted k l.eol l.bom (buffer_opened (chars name) true l.text old)) e))

-- bytes of which nothing was made
pub part-none : (r : Result Loaded DecodeError) (name : List ℕ) (who : ℕ) (flat : Flat) → IsPartOfLoaded r name who flat flat
part-none (Ok l) name who flat = inl (inl refl)
part-none (Err e) name who flat = refl

-- and one that is shown, of which hooks aren't to hear the last
pub part-unheard : (name : List ℕ) (l : Loaded) (n who : ℕ) (mid form shown old new : Flat) → n ≡ first_gap old.buffers → mid ≡ buffer_opened (chars name) true l.text old → form ≡ formatted n l.eol l.bom mid → shown ≡ shows who n form
    → WantsEvents (loaded_noted name n who shown) new → IsPartOfLoad name l who old new
part-unheard name l n who mid form shown old new e m f s w =
    let same : shown ≡ loaded_as name l who old =
    s ∙ ap (λ (x : Flat). shows who n x) (f ∙ ap (λ (x : Flat). formatted n l.eol l.bom x) m)
    ∙ ap (λ k. shows who k (formatted k l.eol l.bom (buffer_opened (chars name) true l.text old))) e in
    inl (inr (subst (λ (x : Flat). WantsEvents x new) (ap₂ (λ k (x : Flat). loaded_noted name k who x) e same) w))

-- a buffer for a file that isn't there, in the same way
pub part-made : (name : List ℕ) (n who : ℕ) (mid shown old new : Flat) → n ≡ first_gap old.buffers → mid ≡ buffer_opened (chars name) true (10 ∷ []) old → shown ≡ shows who n mid
    → WantsEvents (made_noted name n who shown) new → IsPartOfEmpty name who old new
part-made name n who mid shown old new e m s w =
    let same : shown ≡ made_empty name who old =
    s ∙ ap (λ (x : Flat). shows who n x) m ∙ ap (λ k. shows who k (buffer_opened (chars name) true (10 ∷ []) old)) e in
    inl (inr (subst (λ (x : Flat). WantsEvents x new) (ap₂ (λ k (x : Flat). made_noted name k who x) e same) w))

-- a text that counts as saved, of which hooks aren't to hear that it was written
behind-world : (quits : Bool) (flat : Flat) → (behind_write quits flat).world ≡ flat
behind-world true flat = refl
behind-world false flat = refl

pub part-saved : (saving : Saving) (who : ℕ) (old marked new : Flat) → marked ≡ marked_if_own saving old → has_hooks new ≡ true → new ≡ marked → IsPartOfSaved saving put.Done who old new
unfolding row_saved
part-saved saving who old marked new m h e =
    let event : HookEvent = event_of BufWritePost saving.file saving.buffer in
    let full : Flat = noted event (marked_if_own saving old) in
    inr (wants_as (row_saved saving put.Done who old).world full new (behind-world saving.quits full) (wants_noted event (marked_if_own saving old) new h (e ∙ m)))
