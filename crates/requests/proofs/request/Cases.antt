-- The cases of reading a request: its kind, and argument after argument.
-- Assumes nothing.
use Prim.Native.Nat.{ℕ}
use mathlib.Core.Path.{◌≡◌}
use mathlib.Core.List.{List, ◌∷◌}
use borrow.Author.Tests.{eq-eqb, ne_eqb}
use lib.ListN.{drop}
use Rattle.requests.specs.Number.{Number, Refused as NoNumber, read_number}
use Rattle.requests.specs.Request.{Fault, Refused, limit, kind_limit, schema, with_value, read_arguments, as_request, read_request}
use Rattle.requests.specs.declared.request.Argument.{Argument}

-- the next argument
module _ (a : Argument) (rest : List Argument) (s : List ℕ) where
  pub argument_refused : {w : ℕ} → read_number s ≡ NoNumber w → read_arguments (a ∷ rest) s ≡ Fault w
  unfolding read_arguments
  argument_refused e = simp e

  pub argument_limit : {v k : ℕ} → read_number s ≡ Number v k → (limit a v ≡ 0 → ⊥) → read_arguments (a ∷ rest) s ≡ Fault (limit a v)
  unfolding read_arguments
  argument_limit {v} e n = simp (e, ne_eqb (limit a v) 0 n)

  pub argument_value : {v k : ℕ} → read_number s ≡ Number v k → limit a v ≡ 0 → read_arguments (a ∷ rest) s ≡ with_value v k (read_arguments rest (drop k s))
  unfolding read_arguments
  argument_value {v} e z = simp (e, eq-eqb (limit a v) 0 z)

-- the kind, and the arguments after it
module _ (s : List ℕ) where
  pub kind_refused : {w : ℕ} → read_number s ≡ NoNumber w → read_request s ≡ Refused w
  unfolding read_request
  kind_refused e = simp e

  pub kind_limit_lem : {v k : ℕ} → read_number s ≡ Number v k → (kind_limit v ≡ 0 → ⊥) → read_request s ≡ Refused (kind_limit v)
  unfolding read_request
  kind_limit_lem {v} e n = simp (e, ne_eqb (kind_limit v) 0 n)

  pub kind_value : {v k : ℕ} → read_number s ≡ Number v k → kind_limit v ≡ 0 → read_request s ≡ as_request v k (read_arguments (schema v) (drop k s))
  unfolding read_request
  kind_value {v} e z = simp (e, eq-eqb (kind_limit v) 0 z)
