-- Each step of a reader and of the writer keeps the rule of what is published.
use Rattle.std.proofs.Common.{◌≡◌, ◌≢◌, ℕ, Option, None, Some, IfSome, List, [], ◌∷◌, ◌++◌, set, refl, sym, ◌∙◌, subst, ⊎_elim}
use mathlib.Core.Option.{some}
use lib.ListN.{get_elem?}
use Rattle.left_right.specs.Register.{Admits, TurnsAt, Forks, Merges}
use Rattle.atomic_table.proofs.Lists.{at_set, at_snoc}
use Rattle.board_window.specs.Shelves.{IsRight, IsPublished, Publishes, Enters}
use Rattle.board_window.specs.declared.shelf.Shelf.{Shelf}
use Rattle.board_window.specs.declared.wall_name.WallName.{WallName}

abbrev Views : Type 0
Views = List (Option WallName)

-- who is told of the wall that is published knows no other
told-is : (s : Shelf) (views : Views) (seat : ℕ) (v : Option WallName) → IsPublished s views → get_elem? views seat ≡ some v → IfSome v (λ name. name ≡ s.front.wall)
told-is s views seat None h at = tt
told-is s views seat (Some name) h at = h.wall seat name at

-- a seat may know what is so of the wall that is published
knows : (s : Shelf) (views : Views) (seat : ℕ) (v : Option WallName) → IsPublished s views → IfSome v (λ name. name ≡ s.front.wall) → IsPublished s (set views seat v)
knows s views seat v h is = record {
  right = h.right;
  wall = λ j name there.
      ⊎_elim (λ (t : (j ≡ seat) × (v ≡ Some name)). is-of v name is t.1) (λ (t : (j ≢ seat) × (get_elem? views j ≡ some (Some name))). h.wall j name t.1) (at_set views seat j v (Some name) there);
} where
  is-of : (o : Option WallName) (name : WallName) → IfSome o (λ other. other ≡ s.front.wall) → o ≡ Some name → name ≡ s.front.wall
  is-of None name is same = absurd cc
  is-of (Some other) name is same = subst (λ n. n ≡ s.front.wall) (cc same) is

-- and one more seat
comes : (s : Shelf) (views : Views) (v : Option WallName) → IsPublished s views → IfSome v (λ name. name ≡ s.front.wall) → IsPublished s (views ++ v ∷ [])
comes s views v h is = record {
  right = h.right;
  wall = λ j name there.
      ⊎_elim (λ (t : get_elem? views j ≡ some (Some name)). h.wall j name t) (λ (same : v ≡ Some name). is-of v name is same) (at_snoc views v (Some name) j there);
} where
  is-of : (o : Option WallName) (name : WallName) → IfSome o (λ other. other ≡ s.front.wall) → o ≡ Some name → name ≡ s.front.wall
  is-of None name is same = absurd cc
  is-of (Some other) name is same = subst (λ n. n ≡ s.front.wall) (cc same) is

pub admits : Admits IsPublished None
admits s views h = comes s views None h tt

pub enters : (seat : ℕ) (v : Option WallName) (s : Shelf) → TurnsAt IsPublished seat v s s Enters
enters seat v s views h at = let is = told-is s views seat v h at in (v, knows s views seat v h is, (refl, h.right, is))

pub publishes : (seat : ℕ) (v : Option WallName) (s later : Shelf) → (IsRight s → IsRight later) → later.front.wall ≡ s.front.wall → TurnsAt IsPublished seat v s later Publishes
publishes seat v s later right same views h at =
    let known : Option WallName = Some later.front.wall in
    let with_it = knows s views seat known h same in (
      known,
      record { right = right h.right; wall = λ j name there. with_it.wall j name there ∙ sym same },
      refl,
    )

pub tells : (seat : ℕ) (v : Option WallName) → Forks IsPublished seat v v v
tells seat v s views h at = let is = told-is s views seat v h at in comes s (set views seat v) v (knows s views seat v h is) is

pub learns : (seat other : ℕ) (v w : Option WallName) → Merges IsPublished seat v other w w None
learns seat other v w s views h at apart there =
    let is : IfSome w (λ name. name ≡ s.front.wall) =
    ⊎_elim (λ (t : (other ≡ seat) × (w ≡ w)). absurd (apart t.0)) (λ (t : (other ≢ seat) × (get_elem? views other ≡ some w)). told-is s views other w h t.1) (at_set views seat other w w there) in
    knows s (set views seat w) other None (knows s views seat w h is) tt
