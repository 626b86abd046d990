-- Whichever engine answers a request, it leaves the same answer, working memory and output: each is that of the defined run.
use mathlib.Core.Path.{◌≡◌}
use Rattle.queue.specs.declared.Engine.{Engine}
use Rattle.covering.proofs.Table.{determined}
use Rattle.promises.specs.Engines.{Posed, Left, LeftBy}

pub engines_agree : (e e' : Engine) (q : Posed) (l l' : Left) → LeftBy e q l → LeftBy e' q l' → l ≡ l'
engines_agree e e' q l l' A B =
    let d = determined _ _ _ _ _ _ _ _ _ A.answered B.answered in
    λ k. record { answer = d.0 k; mem = d.1 k; out = d.2 k }
