-- Preview (document 02, W6): what a basket of requests would be answered. "A clerk fills a basket of up to 16 requests and wants the
-- answers before committing."
use Rattle.std.specs.Prelude.{ℕ, ◌≤◌, ◌≡◌, List, [], ◌∷◌, Option, None, Some, Bool, ◌&&◌, cond, length, take, get_or, ltb, eqb}
use Rattle.formats.specs.declared.head.Pair.{Pair}
use Rattle.requests.specs.Request.{schema, kind_of, values_of, request_of}
use Rattle.requests.specs.Values.{filled, request_in}
use Rattle.requests.specs.declared.request.Request.{Request}
use Rattle.calls.specs.Buffers.{Buffers, Within}
use Rattle.calls.specs.Refusal.{Condition, ◌when◌, ◌unless◌, first, RefusedFirst}
use Rattle.calls.specs.Conditions.{conditions}
use Rattle.calls.specs.Requests.{kind_condition}
use Rattle.calls.specs.Effect.{effect}
use Rattle.calls.specs.Needs.{◌needs◌, AnsweredBy, needs_of}
use Rattle.calls.specs.Perform.{Performed, perform, checked, AreBytes, SameLengths, InBounds}

-- A BASKET PERFORMED

-- what is given as a request: a request is carried out; a kind that is none is answered "3 kind not 1 to 7", and "a refusal changes no
-- byte of any buffer"
abbrev pub perform_given : Pair → Option Request → Buffers → Performed
perform_given pair None b = record { answer = 3; buffers = b }
perform_given pair (Some k) b = perform pair k b

-- the answers of a list of them, and the buffers after it
pub record AllPerformed : Type 0 where
  pub answers : List ℕ
  pub buffers : Buffers

abbrev pub answered : ℕ → AllPerformed → AllPerformed
answered n others = record { answers = n ∷ others.answers; buffers = others.buffers }

-- one after another, each on what the one before it left: "a request's refusal, 7 to 9 included, is its number in the answer and stops
-- nothing"
unfoldable pub perform_all : Pair → List (Option Request) → Buffers → AllPerformed
perform_all pair [] b = record { answers = []; buffers = b }
perform_all pair (g ∷ others) b = answered (perform_given pair g b).answer (perform_all pair others (perform_given pair g b).buffers)

-- THE PREVIEW of the first `count` places of a basket; b are the ledger and both tables

-- whether scratch buffers are as long as their originals
abbrev pub as_long : Buffers → Buffers → Bool
as_long b scratch =
    eqb (length scratch.ledger) (length b.ledger) && (eqb (length scratch.titles) (length b.titles) && eqb (length scratch.rules) (length b.rules))

-- "Preview itself refuses only with 17 for more than 16 requests and 18 for a scratch buffer whose length is not its original's, in that
-- order and before any request of the basket."
abbrev pub preview_conditions : ℕ → Buffers → Buffers → List Condition
preview_conditions count b scratch =
    17 when ltb 16 count
    ∷ 18 unless as_long b scratch
    ∷ []

unfoldable pub preview_refusal : ℕ → Buffers → Buffers → ℕ
preview_refusal count b scratch = first (preview_conditions count b scratch)

-- its answer, and what it leaves in the 16 places for the answers of the requests and in the scratch buffers
pub record Previewed : Type 0 where
  pub answer : ℕ
  pub answers : List ℕ
  pub scratch : Buffers

-- done, it "answers the list of numbers, with 0 in any place past the count. They are those that performing the basket on a copy gives,
-- and the scratch ends equal to that copy."
abbrev pub done_preview : AllPerformed → Previewed
done_preview p = record { answer = 0; answers = filled 16 p.answers; scratch = p.buffers }

-- of a preview that is lent these scratch buffers and places: what it leaves in them. "The originals remain unchanged": it is lent them
-- to read
unfoldable pub preview : Pair → List (Option Request) → ℕ → Buffers → Buffers → List ℕ → Previewed
preview pair basket count b scratch places =
    cond (eqb (preview_refusal count b scratch) 0)
    (done_preview (perform_all pair (take count basket) b))
    (record { answer = preview_refusal count b scratch; answers = places; scratch = scratch })

-- THE STATEMENT

-- "From here on each new number joins document 01's in demand 1.": of a preview of any basket, on all buffers, damaged ones included
pub record Previews (pair : Pair) (basket : List (Option Request)) (count : ℕ) (b scratch : Buffers) (places : List ℕ) : Type 0 where
  pub refused_first : RefusedFirst (List ℕ × Buffers) (17 ∷ 18 ∷ []) (preview_conditions count b scratch) (preview pair basket count b scratch places).answer
      (places, scratch) ((preview pair basket count b scratch places).answers, (preview pair basket count b scratch places).scratch)
      (filled 16 (perform_all pair (take count basket) b).answers, (perform_all pair (take count basket) b).buffers)
  pub answered_by : AnsweredBy (17 needs (count ≤ 16) ∷ 18 needs SameLengths b scratch ∷ []) (preview pair basket count b scratch places).answer
  -- and it ends in bounds
  pub same_lengths : SameLengths scratch (preview pair basket count b scratch places).scratch
  pub stay_bytes : AreBytes b → AreBytes scratch → AreBytes (preview pair basket count b scratch places).scratch
  pub sixteen : length places ≡ 16 → length (preview pair basket count b scratch places).answers ≡ 16
  -- done, none of what it tells is above 16
  pub at_most_16 : (preview pair basket count b scratch places).answer ≡ 0 → (i : ℕ) → get_or (preview pair basket count b scratch places).answers i 0 ≤ 16

-- a request that a till gives in numbers: 3, and then what its call is tested for. Of the values it is those of the kind's arguments, in
-- their order; what stands behind them counts for nothing
pub record PerformsNumbers (pair : Pair) (kind : ℕ) (values : List ℕ) (b : Buffers) : Type 0 where
  pub refused_first : RefusedFirst Buffers (3 ∷ checked (request_of kind values)) (kind_condition kind ∷ conditions pair (request_of kind values) b)
      (perform_given pair (request_in kind values) b).answer b (perform_given pair (request_in kind values) b).buffers (effect (request_of kind values) b)
  pub answered_by : AnsweredBy (3 needs Within 7 kind ∷ needs_of pair (request_of kind values) b) (perform_given pair (request_in kind values) b).answer
  pub in_bounds : InBounds b (perform_given pair (request_in kind values) b).buffers
  pub numbers_are : Within 7 kind → length (schema kind) ≤ length values
      → (kind_of (request_of kind values) ≡ kind) × (values_of (request_of kind values) ≡ take (length (schema kind)) values)

-- DEMAND 1, of previews and of what a till commits
pub record Demand1Preview : Type 0 where
  pub previews : (pair : Pair) (basket : List (Option Request)) (count : ℕ) (b scratch : Buffers) (places : List ℕ) → Previews pair basket count b scratch places
  pub performs : (pair : Pair) (kind : ℕ) (values : List ℕ) (b : Buffers) → PerformsNumbers pair kind values b
