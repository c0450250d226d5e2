pub mod OverOctets
