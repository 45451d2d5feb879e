-- Every instance of a setting and an array is sound. Assumes nothing.
use Rattle.std.proofs.Common.{ℕ, ◌≤◌, rules}
use Rattle.settings.specs.declared.setting.Setting.{Setting}
use Rattle.settings.specs.Contents.{Content, Within, content}
use Rattle.settings.proofs.Limits.{setting_within}
use Rattle.arrays.specs.Disks.{Disks, Working}
use Rattle.arrays.specs.Layouts.{Layout, Housed}
use Rattle.instances.specs.Instances.{instance, Sound}

pub sound_within : (c : Content) (l : Layout) (time : ℕ) → Within c → Housed l → 1 ≤ time → time ≤ 64 → Sound (instance c l time)
sound_within c l time within housed lasting brief = search rules

pub sound : (s : Setting) (l : Layout) (time : ℕ) (disks : Disks) → Housed l → Working l.disks time disks → Sound (instance (content s) l time)
sound s l time disks housed working = sound_within (content s) l time (setting_within s) housed working.lasting working.brief
