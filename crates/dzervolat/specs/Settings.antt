-- Settings as the host hands them over: what an Announce is judged by, and those of a link.
use Rattle.std.specs.Prelude.{ℕ, not, eqb}
use Rattle.link.specs.declared.Settings as link
use Rattle.ports.specs.declared.intake.Settings.{Settings}

abbrev pub settings : ℕ → ℕ → ℕ → Settings
settings domain clock magic = record { domain = domain; clock = clock; magic = magic }

-- A link's settings; whether the port needs calibration is any number but 0.
abbrev pub link_settings : ℕ → ℕ → ℕ → ℕ → ℕ → ℕ → link.Settings
link_settings config calibrate retry period tx rx =
    record { config = config; calibrate = not (eqb calibrate 0); retry = retry; period = period; tx = tx; rx = rx }
