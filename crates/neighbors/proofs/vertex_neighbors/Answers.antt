-- `neighbors::vertex_neighbors` meets its contract.
use mathlib.Core.Bool.{and-eq-true_iff}
use Rattle.std.proofs.Common.{◌≡◌, ℕ, ◌^◌, ◌<◌, arith}
use Rattle.hilbert.specs.declared.FaceIj.{FaceIj}
use Rattle.hilbert.proofs.Laws.{face_ij_in}
use Rattle.neighbors.specs.declared.Toward.{Toward}
use Rattle.neighbors.specs.Neighbors.{toward_of, vertex_neighbors}
use Rattle.neighbors.proofs.Laws.{TowardIn, toward_in}
use Rattle.neighbors.proofs.vertex_neighbors.Goals.{After-face_ij_orientation-f}
use Rattle.neighbors.proofs.vertex_neighbors.Goals as goal

-- what is known of the cell's place and of the two ways beside it
record Known (f : FaceIj) : Type 0 where
  face : f.face < 6
  i : f.i < 2 ^ 30
  j : f.j < 2 ^ 30

known : (c : After-face_ij_orientation-f) → Known c.face_ij_orientation-f.result
known c = let k = face_ij_in c.args.id c.requires.cell in rw c.face_ij_orientation-f.ensures (record { face = k.face; i = k.i; j = k.j })

along : (i half : ℕ) (t : Toward) → t ≡ toward_of i half → i < 2 ^ 30 → TowardIn t
along i half t e h = rw e (toward_in i half h)

pub nearer-a-requires : goal.nearer-a-requires
nearer-a-requires c = record {
  i_bound = (known (goal.at.nearer-a-requires c).After-face_ij_orientation-f).i;
  place_bound = omega arith;
}

pub nearer-b-requires : goal.nearer-b-requires
nearer-b-requires c = record {
  i_bound = (known (goal.at.nearer-b-requires c).After-face_ij_orientation-f).j;
  place_bound = omega arith;
}

pub overflow_add-f : goal.overflow_add-f
overflow_add-f c = let k = known (goal.at.overflow_add-f c).After-face_ij_orientation-f in omega (arith, k.j)

pub from_face_ij_same-requires : goal.from_face_ij_same-requires
from_face_ij_same-requires c =
    let k = known (goal.at.from_face_ij_same-requires c).After-face_ij_orientation-f in
    let a = along _ _ _ c.nearer-a.ensures k.i in
    record {
      face_bound = k.face;
      reach = (a.past, omega (arith, k.j));
      on_face = λ e. ((a.on e).0, (a.on e).1, omega arith, omega (arith, k.j));
    }

pub overflow_add-f-2 : goal.overflow_add-f-2
overflow_add-f-2 c = let k = known (goal.at.overflow_add-f-2 c).After-face_ij_orientation-f in omega (arith, k.i)

pub from_face_ij_same-requires-2 : goal.from_face_ij_same-requires-2
from_face_ij_same-requires-2 c =
    let k = known (goal.at.from_face_ij_same-requires-2 c).After-face_ij_orientation-f in
    let b = along _ _ _ c.nearer-b.ensures k.j in
    record {
      face_bound = k.face;
      reach = (omega (arith, k.i), b.past);
      on_face = λ e. (omega arith, omega (arith, k.i), (b.on e).0, (b.on e).1);
    }

pub from_face_ij_same-requires-then-a-b : goal.from_face_ij_same-requires-then-a-b
from_face_ij_same-requires-then-a-b c =
    let k = known (goal.at.from_face_ij_same-requires-then-a-b c).After-face_ij_orientation-f in
    let a = along _ _ _ c.nearer-a.ensures k.i in
    let b = along _ _ _ c.nearer-b.ensures k.j in
    record {
      face_bound = k.face;
      reach = (a.past, b.past);
      on_face = λ e. let s = (and-eq-true_iff _ _).0 e in ((a.on s.0).0, (a.on s.0).1, (b.on s.1).0, (b.on s.1).1);
    }

pub returns-then-a-b : goal.returns-then-a-b
unfolding vertex_neighbors
returns-then-a-b c =
    rw (← c.face_ij_orientation-f.ensures, ← c.nearer-a.ensures, ← c.nearer-b.ensures, ← c.from_face_ij_same.ensures, ← c.from_face_ij_same-2.ensures, ← c.from_face_ij_same-then-a-b.ensures, ← c.parent-own.ensures, ← c.parent-along_i.ensures, ← c.parent-along_j.ensures, ← c.parent-across.ensures, c.if-a-b.true)

pub returns-else-a-b : goal.returns-else-a-b
unfolding vertex_neighbors
returns-else-a-b c =
    rw (← c.face_ij_orientation-f.ensures, ← c.nearer-a.ensures, ← c.nearer-b.ensures, ← c.from_face_ij_same.ensures, ← c.from_face_ij_same-2.ensures, ← c.parent-own.ensures, ← c.parent-along_i.ensures, ← c.parent-along_j.ensures, c.if-a-b.false)
