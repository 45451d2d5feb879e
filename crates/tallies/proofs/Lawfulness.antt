-- The tally of every list of calls is lawful. Assumes nothing.
use Rattle.std.proofs.Common.{◌≡◌, ℕ, List, ◌∷◌, sym, ap, ◌∙◌, subst}
use Rattle.settings.specs.declared.setting.Setting.{Setting}
use Rattle.settings.specs.Contents.{content}
use Rattle.arrays.specs.Disks.{Disks, Working}
use Rattle.arrays.specs.Layouts.{Layout, Housed}
use Rattle.instances.specs.Instances.{Instance, instance}
use Rattle.instances.proofs.Soundness.{sound}
use Rattle.tallies.specs.declared.call.Call.{Call}
use Rattle.tallies.specs.declared.call.Call.TheVariants as call
use Rattle.tallies.specs.Tally.{State, beginning, answer, next, after, tally}
use Rattle.tallies.specs.Logs.{log}
use Rattle.tallies.specs.Laws.{Lasts, AnswersCached, Lawful, TalliesLawful}
use Rattle.tallies.proofs.Appending.{after_append}
use Rattle.tallies.proofs.Counting.{times}
use Rattle.tallies.proofs.Keeping.{kept_tally}
use Rattle.tallies.proofs.Landing.{lasts}
use Rattle.tallies.proofs.Moves.{unit_by}
use Rattle.tallies.proofs.Residing.{residents}

-- what a unit answers, by the cache as it began
answers_cached : (w : Instance) (s : State) → AnswersCached w s (answer w s call.Unit)
answers_cached w s = unit_by w s (λ a t. AnswersCached w s a) (λ n values. tt) (λ b g. (g.asks, g.found)) (λ b g. (g.asks, g.found))

pub tallies_lawful : TalliesLawful
tallies_lawful w disks calls sound four = record {
  times = times w disks calls;
  lasts = λ first rest x split ok.
      let s = tally w disks first in
      let es = log w (next w s (call.Order x)) rest in
      let is : tally w disks calls ≡ after w s (call.Order x ∷ rest) = ap (tally w disks) split ∙ after_append w (beginning w disks) first (call.Order x ∷ rest) in
      subst (Lasts w s x.fetch es) (sym is) (lasts w disks first x rest sound four ok);
  shared = λ sane. let kept = kept_tally w disks calls sound four sane in record { full = kept.full; apart = kept.apart };
  residents = residents w disks calls sound four;
  cached = λ first rest split. answers_cached w (tally w disks first);
}

-- the same, of the instance of a setting and an array
pub lawful_above : (s : Setting) (l : Layout) (time : ℕ) (disks : Disks) → Housed l → Working l.disks time disks → (calls : List Call)
    → Lawful (instance (content s) l time) disks calls
lawful_above s l time disks housed working calls =
    tallies_lawful (instance (content s) l time) disks calls (sound s l time disks housed working) working.four
