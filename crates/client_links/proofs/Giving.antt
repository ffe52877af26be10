-- What is received and what is left behind bytes that were given.
use Rattle.std.proofs.Common.{◌≡◌, ℕ, ◌+◌, ◌<◌, ◌≤◌, List, ◌++◌, length, take, drop, Some, sym, ap, ◌∙◌, subst}
use Rattle.std.proofs.Math.Seq.{take-add}
use Rattle.std.proofs.lemmas.List.{take-append-drop, drop-drop}
use Rattle.std.specs.declared.option.Option.{Option}
use Rattle.kak_ports.specs.Ports.{Outlet}
use Rattle.client_links.specs.Wires.{Gets}

received_more : (at count : ℕ) (bytes into : List ℕ) → take count into ≡ take count (drop at bytes) → take (at + count) bytes ≡ take at bytes ++ take count into
received_more at count bytes into e = take-add at count bytes ∙ ap (λ front. take at bytes ++ front) (sym e)

left_less : (at count : ℕ) (bytes into : List ℕ) → take count into ≡ take count (drop at bytes) → drop at bytes ≡ take count into ++ drop (at + count) bytes
left_less at count bytes into e =
    sym (take-append-drop count (drop at bytes))
    ∙ ap (λ rest. take count (drop at bytes) ++ rest) (drop-drop count at bytes)
    ∙ ap (λ front. front ++ drop (at + count) bytes) (sym e)

-- a link that had given so many of its bytes, and gave some more
pub gives : (at count given : ℕ) (bytes into : List ℕ) (pauses : Option ℕ) (faults : ℕ) (outlet : Outlet) → given ≡ count → 0 < count → count ≤ length into → take given into ≡ take given (drop at bytes) → Gets count record { received = Some (take at bytes); left = Some (drop at bytes); pauses = pauses; read_faults = faults; outlet = outlet } record { received = Some (take (at + given) bytes); left = Some (drop (at + given) bytes); pauses = pauses; read_faults = faults; outlet = outlet } into
gives at count given bytes into pauses faults outlet same some room e = record {
  some = some;
  room = room;
  received = let P : ℕ → Type 0 = λ n. take (at + given) bytes ≡ take at bytes ++ take n into in subst P same (received_more at given bytes into e);
  left = let P : ℕ → Type 0 = λ n. drop at bytes ≡ take n into ++ drop (at + given) bytes in subst P same (left_less at given bytes into e);
}
