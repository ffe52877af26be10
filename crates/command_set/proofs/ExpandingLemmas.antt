-- The buffer that a client sees, by its number.
use Rattle.std.proofs.Common.{◌≡◌, ℕ, Bool, true, false, List, sym, ap, ◌∙◌}
use Rattle.std.specs.Prelude.{is_some, slice_index_or, None, Some}
use Rattle.std.specs.declared.option.Option.{Option}
use Rattle.undo_model.specs.Stories.{is_modified}
use Rattle.kak_world.specs.Flat.{Buffer, Flat, is_there, shown_of, buffer_of, story_of, buffer_or_scratch}

pub no-buffer : (n m : ℕ) (bs : List (Option Buffer)) → None ≡ slice_index_or bs n None → n ≡ m → is_there m bs ≡ true → ⊥
no-buffer n m bs e f t = let no : is_some {T = Buffer} None ≡ true = ap is_some e ∙ ap (λ k. is_there k bs) f ∙ t in cc

pub buffer-modified : (who n : ℕ) (flat : Flat) (b : Buffer) → Some b ≡ slice_index_or flat.buffers n None → n ≡ shown_of who flat → is_modified b.story ≡ is_modified (story_of who flat)
unfolding story_of buffer_of
buffer-modified who n flat b e f = ap (λ (o : Option Buffer). is_modified (buffer_or_scratch o).story) (e ∙ ap (λ k. slice_index_or flat.buffers k None) f)
