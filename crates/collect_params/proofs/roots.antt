mod Level
