-- The changes of a list of selections as a whole, in one form.
use Rattle.std.specs.Prelude.{ℕ, ◌-◌, Bool, true, false, List, length, filter_map, flat_map, Some}
use Rattle.std.specs.declared.option.Option.{Option}
use Rattle.list_model.specs.Ranges.{Selected}
use Rattle.list_keys.specs.declared.changes.ListChange.{ListChange}
use Rattle.list_keys.specs.declared.changes.ListChange.TheVariants.{WholeText, MainAlone, WithoutMain, Cut, Split, Copied}
use Rattle.list_keys.specs.Cuts.{cut_by, split_by}
use Rattle.list_keys.specs.Copies.{copy_of}
use Rattle.list_keys.specs.Rows.{left_of_each, parts_of_each, with_copies, copied_each, main_alone, without_main, whole_text}

-- what becomes of a list of selections of a text; None where no selection would be left
abbrev pub changed_list : ListChange → List ℕ → Selected → Option Selected
changed_list WholeText text s = Some (whole_text text)
changed_list MainAlone text s = Some (main_alone s)
changed_list WithoutMain text s = without_main s
changed_list (Cut how) text s = left_of_each (cut_by how text) s
changed_list (Split how) text s = Some (parts_of_each (split_by how text) s)
changed_list (Copied direction) text s = Some (copied_each (copy_of direction text) s)

-- how many selections a change makes, before they are settled
abbrev pub made_count : ListChange → List ℕ → Selected → ℕ
made_count WholeText text s = 1
made_count MainAlone text s = 1
made_count WithoutMain text s = length s.list - 1
made_count (Cut how) text s = length (filter_map (cut_by how text) s.list)
made_count (Split how) text s = length (flat_map (split_by how text) s.list)
made_count (Copied direction) text s = length (with_copies (copy_of direction text) s)

-- whether a change can add selections: it cuts them up or copies them
abbrev pub change_adds : ListChange → Bool
change_adds (Split how) = true
change_adds (Copied direction) = true
change_adds _ = false
