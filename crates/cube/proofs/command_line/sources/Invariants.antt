use Rattle.std.proofs.Common.{◌≡◌, ◌≢◌, All, false}
use Rattle.cube.proofs.command_line.sources.Given as goal
use Rattle.cube.specs.declared.source.Source.TheVariants as from

abbrev pub invariant-loop-name : goal.invariant-loop-name
invariant-loop-name l = l.fn.example ≡ false → All (λ s. s ≢ from.Example) l.sources.items
