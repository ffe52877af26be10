-- Worked examples of what the reading of a line takes and gives.
use Rattle.std.specs.Prelude.{ℕ, List, [], ◌∷◌, Ok, Some}
use Rattle.kak_ports.specs.Ports.{Inlet}
use Rattle.line_reading.specs.declared.reader.NextLine.TheVariants.{Line, Last, Ended, ReadFault}
use Rattle.line_reading.specs.Reading.{Reading, IsNeeded, ReadsCounted}

abbrev pub reading : ℕ → List ℕ → List ℕ → Reading
reading taken pending line = record { taken = taken; pending = pending; line = line }

-- an input of which so much is left, and of which one take gives at most two bytes
abbrev pub input : List ℕ → Inlet
input left = record { left = Some left; most = 2; faults = 0 }

pub record Examples : Type 0 where
  -- the line 1 2 3, of which 1 2 had come: one take was needed, and 4 is left to be taken
  pub line : ReadsCounted {E = ℕ} (Ok Line) (reading 2 (1 ∷ 2 ∷ []) []) (reading 4 [] (1 ∷ 2 ∷ 3 ∷ [])) (input (3 ∷ 10 ∷ 4 ∷ [])) (input (4 ∷ []))
  -- an empty line that had come already: nothing was taken, and 4 goes on being pending
  pub pending : ReadsCounted {E = ℕ} (Ok Line) (reading 6 (10 ∷ 4 ∷ []) (7 ∷ [])) (reading 6 (4 ∷ []) []) (input (5 ∷ [])) (input (5 ∷ []))
  -- the input ended in a line, or behind one
  pub last : ReadsCounted {E = ℕ} (Ok Last) (reading 1 (1 ∷ []) []) (reading 4 [] (1 ∷ 2 ∷ 3 ∷ 4 ∷ [])) (input (2 ∷ 3 ∷ 4 ∷ [])) (input [])
  pub ended : ReadsCounted {E = ℕ} (Ok Ended) (reading 2 [] (1 ∷ [])) (reading 2 [] []) (input []) (input [])
  -- the input failed behind 1 2 3, of which none is lost
  pub failed : ReadsCounted {E = ℕ} (Ok ReadFault) (reading 1 (1 ∷ []) []) (reading 3 (1 ∷ 2 ∷ 3 ∷ []) []) (input (2 ∷ 3 ∷ 4 ∷ [])) (input (4 ∷ []))
  -- the newline came with the second take at the latest: a third one wasn't needed
  pub ahead : IsNeeded [] (input (1 ∷ 10 ∷ 2 ∷ 3 ∷ [])) (1 ∷ 10 ∷ 2 ∷ 3 ∷ []) → ⊥
  -- nor was any where a newline was pending
  pub unasked : IsNeeded (10 ∷ []) (input (1 ∷ [])) (1 ∷ []) → ⊥
  -- an empty last line isn't told, nor a line with its newline
  pub no_last : ReadsCounted {E = ℕ} (Ok Last) (reading 0 [] []) (reading 0 [] []) (input []) (input []) → ⊥
  pub no_newline : ReadsCounted {E = ℕ} (Ok Line) (reading 0 [] []) (reading 2 [] (1 ∷ 10 ∷ [])) (input (1 ∷ 10 ∷ [])) (input []) → ⊥
